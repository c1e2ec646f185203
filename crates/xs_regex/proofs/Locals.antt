-- A text against words of positions, a character at a time.
use Rattle.std.proofs.Common.{◌≡◌, ℕ, Bool, List, [], ◌∷◌, ◌++◌, append_assoc}
use Rattle.std.specs.Prelude.{IsTrue}
use Rattle.xs_positions.specs.PositionWords.{Begins, Ends, Follows, Exchanges}
use Rattle.xs_regex.specs.Words.{Reads}

module _ (Word : List ℕ → Type 0) (takes : ℕ → ℕ → Bool) where
  -- some word takes the text
  abbrev pub Whole : List ℕ → Type 0
  Whole text = (word : List ℕ) × Word word × Reads takes word text

  -- what comes behind the position in some word takes the text
  abbrev pub Behind : ℕ → List ℕ → Type 0
  Behind p text = (front rest : List ℕ) × Word (front ++ p ∷ rest) × Reads takes rest text

  -- where such positions wait for the next character, or else the text read so far is accepted or not
  abbrev pub Outcome : (ℕ → Type 0) → Type 0 → List ℕ → Type 0
  Outcome Waits Accepted [] = Accepted
  Outcome Waits Accepted (c ∷ text) = (p : ℕ) × Waits p × IsTrue (takes p c) × Behind p text

  whole_nil : (word : List ℕ) → Word word → Reads takes word [] → Word []
  whole_nil [] w r = w
  whole_nil (p ∷ word) w r = absurd r

  whole_cons : (word : List ℕ) (c : ℕ) (text : List ℕ) → Word word → Reads takes word (c ∷ text) → (p : ℕ) × Begins Word p × IsTrue (takes p c) × Behind p text
  whole_cons [] c text w r = absurd r
  whole_cons (p ∷ word) c text w r = (p, (word, w), r.0, ([], word, w, r.1))

  -- at the beginning the first positions wait
  pub outcome_whole : (Waits : ℕ → Type 0) (Accepted : Type 0) (text : List ℕ) → Exchanges Word →
      ((p : ℕ) → Waits p → Begins Word p) → (Accepted → Word []) → Outcome Waits Accepted text → Whole text
  outcome_whole Waits Accepted [] x b n h = ([], n h, tt)
  outcome_whole Waits Accepted (c ∷ text) x b n (p, w, t, (front, rest, v, r)) =
      let begun = b p w in
      (p ∷ rest, x [] begun.0 front rest p begun.1 v, (t, r))

  pub whole_outcome : (Waits : ℕ → Type 0) (Accepted : Type 0) (text : List ℕ) →
      ((p : ℕ) → Begins Word p → Waits p) → (Word [] → Accepted) → Whole text → Outcome Waits Accepted text
  whole_outcome Waits Accepted [] b n h = n (whole_nil h.0 h.1 h.2)
  whole_outcome Waits Accepted (c ∷ text) b n h =
      let k = whole_cons h.0 c text h.1 h.2 in
      (k.0, b k.0 k.1, k.2, k.3)

  behind_nil : (p : ℕ) → Behind p [] → Ends Word p
  behind_nil p (front, [], w, r) = (front, w)
  behind_nil p (front, q ∷ rest, w, r) = absurd r

  behind_cons : (p c : ℕ) (text : List ℕ) → Behind p (c ∷ text) → (q : ℕ) × Follows Word p q × IsTrue (takes q c) × Behind q text
  behind_cons p c text (front, [], w, r) = absurd r
  behind_cons p c text (front, q ∷ rest, w, r) =
      (q, (front, rest, w), r.0, (front ++ p ∷ [], rest, rw (append_assoc front (p ∷ []) (q ∷ rest)) w, r.1))

  cons_behind : (p q c : ℕ) (text : List ℕ) → Exchanges Word → Follows Word p q → IsTrue (takes q c) → Behind q text → Behind p (c ∷ text)
  cons_behind p q c text x (front, rest, w) t (other, more, v, r) =
      let e : (front ++ p ∷ []) ++ q ∷ rest ≡ front ++ p ∷ q ∷ rest = append_assoc front (p ∷ []) (q ∷ rest) in
      let f : (front ++ p ∷ []) ++ q ∷ more ≡ front ++ p ∷ q ∷ more = append_assoc front (p ∷ []) (q ∷ more) in
      (front, q ∷ more, (rw f at (x (front ++ p ∷ []) rest other more q (rw e w) v)), (t, r))

  -- A character more: the text so far is accepted where a word ends at a position that waited and took it, and those wait
  -- that follow such a position.
  pub outcome_step : (Waits Next : ℕ → Type 0) (Accepted Now : Type 0) (c : ℕ) (text : List ℕ) →
      (((p : ℕ) × Waits p × IsTrue (takes p c) × Ends Word p) → Now) →
      ((p q : ℕ) → Waits p → IsTrue (takes p c) → Follows Word p q → Next q) →
      Outcome Waits Accepted (c ∷ text) → Outcome Next Now text
  outcome_step Waits Next Accepted Now c [] n f (p, w, t, b) = n (p, w, t, behind_nil p b)
  outcome_step Waits Next Accepted Now c (d ∷ text) n f (p, w, t, b) =
      let k = behind_cons p d text b in
      (k.0, f p k.0 w t k.1, k.2, k.3)

  pub step_outcome : (Waits Next : ℕ → Type 0) (Accepted Now : Type 0) (c : ℕ) (text : List ℕ) → Exchanges Word →
      (Now → (p : ℕ) × Waits p × IsTrue (takes p c) × Ends Word p) →
      ((q : ℕ) → Next q → (p : ℕ) × Waits p × IsTrue (takes p c) × Follows Word p q) →
      Outcome Next Now text → Outcome Waits Accepted (c ∷ text)
  step_outcome Waits Next Accepted Now c [] x n f h =
      let k = n h in
      (k.0, k.1, k.2, (k.3.0, [], k.3.1, tt))
  step_outcome Waits Next Accepted Now c (d ∷ text) x n f (q, w, t, b) =
      let k = f q w in
      (k.0, k.1, k.2, cons_behind k.0 q d text x k.3 t b)
