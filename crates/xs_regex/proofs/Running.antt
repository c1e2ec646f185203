-- What a run over a text comes to.
use Rattle.std.proofs.Common.{◌≡◌, ℕ, zero, suc, ◌+◌, ◌<◌, ◌≤◌, ◌↔◌, Bool, true, false, List, [], ◌∷◌, map, length, get_or, drop, refl, ap, sym, ◌∙◌, add-one, arith}
use Rattle.std.specs.Prelude.{IsTrue, slice_index}
use Rattle.std.proofs.Math.Seq.{drop-cons}
use Rattle.xs_positions.specs.Tree.{Tree, size}
use Rattle.xs_positions.specs.PositionWords.{IsWord}
use Rattle.xs_positions.specs.Positions.{Table, ArePositionsOf}
use Rattle.pattern_syntax.specs.Classes.{Class}
use Rattle.pattern_syntax.specs.Regex.{Matches}
use Rattle.pattern_syntax.specs.Trees.{regex_of}
use Rattle.xs_regex.specs.Sets.{Has}
use Rattle.xs_regex.specs.Program.{takes_by, Waits, IsRead}
use Rattle.xs_regex.proofs.SetLaws.{has_within}
use Rattle.xs_regex.proofs.Locals.{Outcome, Whole, outcome_whole, whole_outcome, outcome_step, step_outcome}
use Rattle.xs_regex.proofs.Spelled.{of_class, matches_spelled, spelled_matches, reads_map, map_reads}

pub split_drop : (xs : List ℕ) (i x : ℕ) → i < length xs → x ≡ get_or xs i x → drop i xs ≡ x ∷ drop (i + 1) xs
split_drop xs i x l e = rw add-one (drop-cons xs i x l ∙ ap (λ z. z ∷ drop (suc i) xs) (sym e))

pub drop_all : (xs : List ℕ) (i : ℕ) → length xs ≤ i → drop i xs ≡ []
drop_all [] zero l = refl
drop_all [] (suc i) l = refl
drop_all (x ∷ xs) zero l = absurd (omega arith)
drop_all (x ∷ xs) (suc i) l = drop_all xs i (omega arith)

module _ (classes : List Class) (tree : Tree) (table : Table) (are : ArePositionsOf tree table) where
  abbrev pub Run : List ℕ → Type 0
  Run text = Whole (IsWord tree 0) (takes_by classes table) text

  -- what the run comes to from here on
  abbrev pub RunOutcome : List Bool → Bool → List ℕ → Type 0
  RunOutcome live begun text = Outcome (IsWord tree 0) (takes_by classes table) (Waits table live begun) (IsRead table live begun) text

  -- at the beginning
  pub run_sound : (live : List Bool) (text : List ℕ) → RunOutcome live false text → Run text
  run_sound live text =
      outcome_whole (IsWord tree 0) (takes_by classes table) (Waits table live false) (IsRead table live false) text are.exchange (λ p. (are.first p).0) are.nullable.0

  pub run_complete : (live : List Bool) (text : List ℕ) → Run text → RunOutcome live false text
  run_complete live text =
      whole_outcome (IsWord tree 0) (takes_by classes table) (Waits table live false) (IsRead table live false) text (λ p. (are.first p).1) are.nullable.1

  -- the live positions after a character are those that waited for it and took it
  abbrev pub AreTaken : List Bool → Bool → ℕ → List Bool → Type 0
  AreTaken live begun c next = (p : ℕ) → Has next p ↔ (Waits table live begun p × IsTrue (takes_by classes table p c))

  below : (set : List Bool) (p : ℕ) → length set ≡ length table.symbols → Has set p → p < size tree
  below set p e h = let l = has_within set p h in let k = are.count in omega arith

  -- a character more
  step_sound : (live next : List Bool) (begun : Bool) (c : ℕ) (text : List ℕ) → length next ≡ length table.symbols → AreTaken live begun c next →
      RunOutcome next true text → RunOutcome live begun (c ∷ text)
  step_sound live next begun c text e taken =
      step_outcome (IsWord tree 0) (takes_by classes table) (Waits table live begun) (Waits table next true) (IsRead table live begun) (IsRead table next true) c text are.exchange
      (λ h. let k = (taken h.0).0 h.1 in (h.0, k.0, k.1, (are.last h.0).0 h.2))
      (λ q h. let k = (taken h.0).0 h.1 in (h.0, k.0, k.1, (are.follow h.0 q (below next h.0 e h.1)).0 h.2))

  step_complete : (live next : List Bool) (begun : Bool) (c : ℕ) (text : List ℕ) → length next ≡ length table.symbols → AreTaken live begun c next →
      RunOutcome live begun (c ∷ text) → RunOutcome next true text
  step_complete live next begun c text e taken =
      outcome_step (IsWord tree 0) (takes_by classes table) (Waits table live begun) (Waits table next true) (IsRead table live begun) (IsRead table next true) c text
      (λ h. (h.0, (taken h.0).1 (h.1, h.2), (are.last h.0).1 h.3))
      (λ p q w t k. let h : Has next p = (taken p).1 (w, t) in (p, h, (are.follow p q (below next p e h)).1 k))

  -- a turn of the loop over the text
  pub turn_sound : (live next live' : List Bool) (begun : Bool) (text : List ℕ) (c n n' : ℕ) → live' ≡ next → n' ≡ n + 1 → n < length text → c ≡ get_or text n c →
      length next ≡ length table.symbols → AreTaken live begun c next → (RunOutcome live begun (drop n text) → Run text) → RunOutcome live' true (drop n' text) → Run text
  turn_sound live next live' begun text c n n' s m l e size taken f h =
      f (rw (split_drop text n c l e) (step_sound live next begun c (drop (n + 1) text) size taken (rw (s, m) at h)))

  pub turn_complete : (live next live' : List Bool) (begun : Bool) (text : List ℕ) (c n n' : ℕ) → live' ≡ next → n' ≡ n + 1 → n < length text → c ≡ get_or text n c →
      length next ≡ length table.symbols → AreTaken live begun c next → (Run text → RunOutcome live begun (drop n text)) → Run text → RunOutcome live' true (drop n' text)
  turn_complete live next live' begun text c n n' s m l e size taken f h =
      rw (s, m) (step_complete live next begun c (drop (n + 1) text) size taken (rw (split_drop text n c l e) at (f h)))

  -- a word that takes the text is a text of the expression
  pub run_matches : (text : List ℕ) → Run text → Matches (regex_of classes tree) text
  run_matches text (word, w, r) =
      let symbol : ℕ → ℕ = λ p. slice_index table.symbols p in
      spelled_matches classes tree (map symbol word) text ((are.spelling (map symbol word)).1 (word, w, refl)) (map_reads (of_class classes) symbol word text r)

  pub matches_run : (text : List ℕ) → Matches (regex_of classes tree) text → Run text
  matches_run text m =
      let symbol : ℕ → ℕ = λ p. slice_index table.symbols p in
      let s = matches_spelled classes tree text m in
      let k = (are.spelling s.0).0 s.1 in
      (k.0, k.1, reads_map (of_class classes) symbol k.0 text (rw k.2 s.2))
