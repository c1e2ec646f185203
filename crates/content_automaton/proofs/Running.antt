-- Where an automaton is after some names.
use Rattle.std.proofs.Common.{◌≡◌, ◌≢◌, ℕ, suc, ◌+◌, ◌*◌, ◌<◌, ◌≤◌, ◌↔◌, ◌==◌, min, true, false, IsTrue, List, [], ◌∷◌, length, refl, ap, subst, sym, ◌∙◌, inl, inr, arith, eqb-true, eq-eqb, suc-mul}
use Rattle.std.specs.Prelude.{Contains, All, slice_index, nat_lt}
use Rattle.std.proofs.Math.Nat.{mul-le-mul_right}
use Rattle.std.proofs.lemmas.Bool.{cases_lt}
use Rattle.std.proofs.lemmas.Bool.Decides.{nat_tests}
use Rattle.std.proofs.lemmas.List.{get_or_past}
use Rattle.std.proofs.lemmas.List.Elements.{All-tail}
use Rattle.xs_positions.specs.Positions.{Table}
use Rattle.content_automaton.specs.Moves.{takes, Comes, Ends}
use Rattle.content_automaton.specs.Built.{set_of, IsNumber, IsAfter}
use Rattle.content_automaton.specs.Automaton.{Automaton, step_of, run, IsAutomaton}
use Rattle.content_automaton.proofs.Members.{none_contained}

-- the state holds the positions in which the names may end, the last one first
pub record Stands (table : Table) (accepted : List (List ℕ)) (sets : List (List ℕ)) (a : Automaton) (before : List ℕ) (s : ℕ) : Type 0 where
  pub within : s ≤ a.count
  pub set : (q : ℕ) → Contains (set_of sets s) q ↔ Ends table (takes table accepted) before q
  pub start : (before ≡ []) → s ≡ 0
  pub other : (before ≢ []) → 0 < s

pub step_inside : (a : Automaton) (s n : ℕ) → s < a.count → step_of a s n ≡ min (slice_index a.cells (s * a.symbols + n)) a.count
step_inside a s n l = let t : nat_lt s a.count ≡ true = grind (arith, nat_tests) in rw t refl

pub step_outside : (a : Automaton) (s n : ℕ) → a.count ≤ s → step_of a s n ≡ a.count
step_outside a s n l = let t : nat_lt s a.count ≡ false = grind (arith, nat_tests) in rw t refl

module _ (table : Table) (accepted : List (List ℕ)) (sets : List (List ℕ)) (a : Automaton) (is : IsAutomaton table accepted sets a) where
  -- the cell of a live state
  pub cell_inside : (s n : ℕ) → s < a.count → n < a.symbols → s * a.symbols + n < length a.cells
  cell_inside s n l b =
      let e = is.cells in let k : suc s * a.symbols ≤ a.count * a.symbols = mul-le-mul_right a.symbols l in
      let m : suc s * a.symbols ≡ s * a.symbols + a.symbols = suc-mul s a.symbols in omega arith

  -- a step, and the state that it leads to
  stepped : (s n : ℕ) → s < a.count → n < a.symbols →
      (0 < step_of a s n) × (step_of a s n ≤ a.count) × IsAfter table accepted sets s n (set_of sets (step_of a s n))
  stepped s n l b =
      let c = is.steps s n b (cell_inside s n l b) in
      let i : ℕ = slice_index a.cells (s * a.symbols + n) in
      let p : 0 < i = c.number.not_start in let m = is.states.some in let counted = is.counted in let f = is.few in
      rw (step_inside a s n l) (omega arith, omega arith, same_set c.number c.after)
    where
      same_set : IsNumber sets (slice_index a.cells (s * a.symbols + n)) → IsAfter table accepted sets s n (set_of sets (slice_index a.cells (s * a.symbols + n))) →
          IsAfter table accepted sets s n (set_of sets (min (slice_index a.cells (s * a.symbols + n)) a.count))
      same_set num after =
          let i : ℕ = slice_index a.cells (s * a.symbols + n) in let f = is.few in
          let e : set_of sets i ≡ set_of sets (min i a.count) = elim num.live [
            | inl k ↦ (let m : i ≡ min i a.count = omega arith in ap (set_of sets) m)
            | inr k ↦ (let m : min i a.count ≡ a.count = omega arith in
                get_or_past sets i [] (let n = is.counted in omega arith) ∙ (sym (get_or_past sets a.count [] (let n = is.counted in omega arith)) ∙ ap (set_of sets) (sym m)))
          ] in
          subst (λ (xs : List ℕ). IsAfter table accepted sets s n xs) e after

  ends_step : (before : List ℕ) (s n q : ℕ) → Stands table accepted sets a before s → (Comes table (s == 0) (set_of sets s) q × IsTrue (takes table accepted q n)) ↔ Ends table (takes table accepted) (n ∷ before) q
  ends_step [] s n q st = (
    (λ h. elim h.0 [
      | inl f ↦ (f.1, h.1)
      | inr g ↦ absurd ((st.set g.0).0 g.1)
    ]),
    (λ h. (inl (eq-eqb s 0 (st.start refl), h.0), h.1)),
  )
  ends_step (m ∷ before) s n q st = (
    (λ h. elim h.0 [
      | inl f ↦ (let e : s ≡ 0 = eqb-true s 0 f.0 in let p : 0 < s = st.other (λ z. cc) in absurd (omega arith))
      | inr g ↦ ((g.0, (st.set g.0).0 g.1, g.2), h.1)
    ]),
    (λ h. (inr (h.0.0, (st.set h.0.0).1 h.0.1, h.0.2), h.1)),
  )

  pub stands_step : (before : List ℕ) (s n : ℕ) → n < a.symbols → Stands table accepted sets a before s → Stands table accepted sets a (n ∷ before) (step_of a s n)
  stands_step before s n b st = elim (cases_lt s a.count) [
    | inl l ↦ (let t = stepped s n l b in
        record {
          within = t.1;
          set = λ q. ((λ c. (ends_step before s n q st).0 ((t.2 q).0 c)), (λ e. (t.2 q).1 ((ends_step before s n q st).1 e)));
          start = λ e. absurd (cc);
          other = λ e. t.0;
        })
    | inr l ↦ rw (step_outside a s n l) (let m = is.states.some in let counted = is.counted in record {
      within = omega arith;
      set = λ q. (
        (λ c. absurd (none_contained q (rw (get_or_past sets a.count [] (let n = is.counted in omega arith)) at c))),
        (λ e. absurd (dead_ends before s n q st l e)),
      );
      start = λ e. absurd (cc);
      other = λ e. (omega arith);
    })
  ]
    where
      dead_ends : (before : List ℕ) (s n q : ℕ) → Stands table accepted sets a before s → a.count ≤ s → Ends table (takes table accepted) (n ∷ before) q → ⊥
      dead_ends [] s n q st l e = let z = st.start refl in let m = is.states.some in let counted = is.counted in omega arith
      dead_ends (m ∷ before) s n q st l e = none_contained e.0.0 (rw (get_or_past sets s [] (let n = is.counted in omega arith)) at ((st.set e.0.0).1 e.0.1))

  -- the names, onto those before, the last one first
  abbrev pub onto : List ℕ → List ℕ → List ℕ
  onto [] before = before
  onto (n ∷ names) before = onto names (n ∷ before)

  pub stands_run : (names before : List ℕ) (s : ℕ) → All (λ n. n < a.symbols) names → Stands table accepted sets a before s → Stands table accepted sets a (onto names before) (run a s names)
  stands_run [] before s b st = st
  stands_run (n ∷ names) before s b st =
      stands_run names (n ∷ before) (step_of a s n) (All-tail (λ n. n < a.symbols) n names b) (stands_step before s n (b 0 0 (omega arith)) st)

  pub stands_start : Stands table accepted sets a [] 0
  stands_start = record {
    within = (let m = is.states.some in let counted = is.counted in omega arith);
    set = λ q. ((λ c. absurd (none_contained q (rw is.states.start at c))), (λ e. absurd e));
    start = λ e. refl;
    other = λ e. absurd (e refl);
  }
