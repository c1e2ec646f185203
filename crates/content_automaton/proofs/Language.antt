-- What an automaton's states say of the words.
use Rattle.std.proofs.Common.{◌≡◌, ◌≢◌, ℕ, ◌<◌, ◌≤◌, ◌↔◌, Bool, true, false, IsTrue, List, [], ◌∷◌, ◌++◌, refl, ap, sym, ◌∙◌, inl, inr, arith, eqb-true, append_assoc, append-nil, if◌then◌else◌}
use Rattle.std.specs.Prelude.{Contains, All}
use Rattle.std.proofs.lemmas.Bool.{cases_lt, both_ways, false≢true}
use Rattle.std.proofs.lemmas.List.{get_or_past}
use Rattle.xs_positions.specs.Tree.{Tree}
use Rattle.xs_positions.specs.PositionWords.{IsWord, HasWord}
use Rattle.xs_positions.specs.Positions.{Table, ArePositionsOf}
use Rattle.particle_models.specs.Reach.{Reads, Reach}
use Rattle.particle_models.proofs.Reaching.{reach_word, reach_begins}
use Rattle.content_automaton.specs.Moves.{takes}
use Rattle.content_automaton.specs.Built.{set_of}
use Rattle.content_automaton.specs.Automaton.{Automaton, dead_of, run, state_of, accepts_at, IsAutomaton, Speaks}
use Rattle.content_automaton.proofs.Members.{none_contained, some_of}
use Rattle.content_automaton.proofs.Running.{Stands, step_outside, onto, stands_run, stands_start}
use Rattle.content_automaton.proofs.Reached.{turned, ends_reach}

module _ (tree : Tree) (table : Table) (are : ArePositionsOf tree table) (accepted : List (List ℕ)) (sets : List (List ℕ)) (a : Automaton) (is : IsAutomaton table accepted sets a) where
  abbrev Takes : List ℕ → ℕ → ℕ → Type 0
  Takes before p n = IsTrue (takes table accepted p n)

  abbrev Word : List ℕ → Type 0
  Word = IsWord tree 0

  abbrev pub BeginsAt : List ℕ → Type 0
  BeginsAt names = (front rest : List ℕ) × Word (front ++ rest) × Reads Takes [] front names

  abbrev pub WordAt : List ℕ → Type 0
  WordAt names = (ps : List ℕ) × Word ps × Reads Takes [] ps names

  turn : List ℕ → List ℕ
  turn = turned tree table are (takes table accepted)

  turned_onto : (names before : List ℕ) → turned tree table are (takes table accepted) (onto table accepted sets a is names before) ≡ turned tree table are (takes table accepted) before ++ names
  turned_onto [] before = sym (append-nil (turned tree table are (takes table accepted) before))
  turned_onto (n ∷ names) before = turned_onto names (n ∷ before) ∙ append_assoc (turned tree table are (takes table accepted) before) (n ∷ []) names

  onto_some : (names before : List ℕ) → before ≢ [] → onto table accepted sets a is names before ≢ []
  onto_some [] before h = h
  onto_some (n ∷ names) before h = onto_some names (n ∷ before) (λ e. cc)

  -- the positions of the state are those reached
  pub reached : (names : List ℕ) (s : ℕ) → Stands table accepted sets a (onto table accepted sets a is names []) s → (q : ℕ) → Contains (set_of sets s) q ↔ Reach Takes Word names q
  reached names s st q =
      let e = ends_reach tree table are (takes table accepted) (onto table accepted sets a is names []) q in
      let t : turned tree table are (takes table accepted) (onto table accepted sets a is names []) ≡ names = turned_onto names [] in
      ((λ c. rw t at (e.0 ((st.set q).0 c))), (λ r. (st.set q).1 (e.1 (rw t r))))

  no_reading : (ps : List ℕ) → Reads Takes [] ps [] → ps ≡ []
  no_reading [] r = refl
  no_reading (p ∷ ps) r = absurd r

  begins_word : (names : List ℕ) → BeginsAt names → HasWord Word
  begins_word names h = (h.0 ++ h.1, h.2)

  has_word : HasWord Word → IsTrue a.lives
  has_word ([], w) = is.lives.1 (inl (are.nullable.1 w))
  has_word (p ∷ ps, w) = is.lives.1 (inr (p, (are.first p).1 (ps, w)))

  lives_word : IsTrue a.lives → HasWord Word
  lives_word h = elim (is.lives.0 h) [
    | inl n ↦ ([], are.nullable.0 n)
    | inr f ↦ (let b = (are.first f.0).0 f.1 in (f.0 ∷ b.0, b.1))
  ]

  run_dead : (names : List ℕ) → run a a.count names ≡ a.count
  run_dead [] = refl
  run_dead (n ∷ names) = ap (λ s. run a s names) (step_outside a a.count n (omega arith)) ∙ run_dead names

  -- where there is a word
  live_from_start : (names : List ℕ) → All (λ n. n < a.symbols) names → IsTrue a.lives → (run a 0 names < a.count) ↔ BeginsAt names
  live_from_start [] b y = (
    (λ l. let w = lives_word y in ([], w.0, w.1, tt)),
    (λ h. let m = is.states.some in let counted = is.counted in (let n = is.counted in omega arith)),
  )
  live_from_start (n ∷ names) b y =
      let s : ℕ = run a 0 (n ∷ names) in
      let st : Stands table accepted sets a (onto table accepted sets a is (n ∷ names) []) s = stands_run table accepted sets a is (n ∷ names) [] 0 b (stands_start table accepted sets a is) in
      let r = reached (n ∷ names) s st in
      let e = reach_begins Takes Word (n ∷ names) (λ z. cc) in
      let p : 0 < s = st.other (onto_some names (n ∷ []) (λ z. cc)) in (
        (λ l. let c = some_of (set_of sets s) (is.states.each s p (let n = is.counted in omega arith)).filled in e.1 (c.0, (r c.0).0 c.1)),
        (λ h. let q = e.0 h in inside s q.0 ((r q.0).1 q.1)),
      )
    where
      inside : (s q : ℕ) → Contains (set_of sets s) q → s < a.count
      inside s q c = elim (cases_lt s a.count) [
        | inl l ↦ l
        | inr l ↦ absurd (none_contained q (rw (get_or_past sets s [] (let n = is.counted in omega arith)) at c))
      ]

  -- some word begins with the names exactly where their state is not dead
  pub live_is : (names : List ℕ) → All (λ n. n < a.symbols) names → (state_of a names < dead_of a) ↔ BeginsAt names
  live_is names b = by_lives a.lives refl
    where
      by_lives : (v : Bool) → a.lives ≡ v → (run a (if v then 0 else a.count) names < a.count) ↔ BeginsAt names
      by_lives true e = live_from_start names b e
      by_lives false e = (
        (λ l. let d = run_dead names in absurd (omega arith)),
        (λ h. absurd (both_ways a.lives e (has_word (begins_word names h)))),
      )

  word_begins : (names : List ℕ) → WordAt names → BeginsAt names
  word_begins names h = (h.0, [], rw append-nil h.1, h.2)

  accepts_from_start : (names : List ℕ) → All (λ n. n < a.symbols) names → run a 0 names < a.count → IsTrue (accepts_at a (run a 0 names)) ↔ WordAt names
  accepts_from_start [] b l =
      let m = is.ends 0 l in (
        (λ h. elim (m.0 h) [
          | inl f ↦ ([], are.nullable.0 f.1, tt)
          | inr g ↦ absurd (none_contained g.0 (rw is.states.start at g.1))
        ]),
        (λ h. m.1 (inl (refl, are.nullable.1 (rw (no_reading h.0 h.2) at h.1)))),
      )
  accepts_from_start (n ∷ names) b l =
      let s : ℕ = run a 0 (n ∷ names) in
      let st : Stands table accepted sets a (onto table accepted sets a is (n ∷ names) []) s = stands_run table accepted sets a is (n ∷ names) [] 0 b (stands_start table accepted sets a is) in
      let r = reached (n ∷ names) s st in
      let e = reach_word Takes Word are.exchange (n ∷ names) (λ z. cc) in
      let p : 0 < s = st.other (onto_some names (n ∷ []) (λ z. cc)) in
      let m = is.ends s l in (
        (λ h. elim (m.0 h) [
          | inl f ↦ (let z : s ≡ 0 = eqb-true s 0 f.0 in absurd (omega arith))
          | inr g ↦ e.1 (g.0, (r g.0).0 g.1, (are.last g.0).0 g.2)
        ]),
        (λ h. let g = e.0 h in m.1 (inr (g.0, (r g.0).1 g.1, (are.last g.0).1 g.2))),
      )

  past_end : (s : ℕ) → a.count ≤ s → IsTrue (accepts_at a s) → ⊥
  past_end s l h = let n = is.ends_count in false≢true (sym (get_or_past a.ends s false (omega arith)) ∙ h)

  -- the names are a word exactly where their state accepted
  pub accepts_is : (names : List ℕ) → All (λ n. n < a.symbols) names → IsTrue (accepts_at a (state_of a names)) ↔ WordAt names
  accepts_is names b = by_lives a.lives refl
    where
      by_lives : (v : Bool) → a.lives ≡ v → IsTrue (accepts_at a (run a (if v then 0 else a.count) names)) ↔ WordAt names
      by_lives true e = elim (cases_lt (run a 0 names) a.count) [
        | inl l ↦ accepts_from_start names b l
        | inr l ↦ (
          (λ h. absurd (past_end (run a 0 names) l h)),
          (λ h. let c = (live_from_start names b e).1 (word_begins names h) in absurd (omega arith)),
        )
      ]
      by_lives false e = (
        (λ h. absurd (past_end a.count (omega arith) (rw (run_dead names) at h))),
        (λ h. absurd (both_ways a.lives e (has_word (begins_word names (word_begins names h))))),
      )

  pub speaks : Speaks tree table accepted a
  speaks = record { live = live_is; accepting = accepts_is }
