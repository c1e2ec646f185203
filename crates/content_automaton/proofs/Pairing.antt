-- Terms that the same names lead to are those of the positions of one state.
use Rattle.std.proofs.Common.{◌≡◌, ℕ, zero, suc, ◌+◌, ◌<◌, ◌≤◌, List, [], ◌∷◌, length, map, get_or, take, Option, Some, None, refl, ap, subst, sym, ◌∙◌, inl, inr, arith, below_more}
use Rattle.std.specs.Prelude.{Contains, All, MatchOption}
use Rattle.std.proofs.lemmas.Bool.{cases_lt}
use Rattle.std.proofs.lemmas.List.{take_all, length-map, get_or_past}
use Rattle.xs_positions.specs.Tree.{Tree}
use Rattle.xs_positions.specs.PositionWords.{IsWord}
use Rattle.xs_positions.specs.Positions.{Table, ArePositionsOf}
use Rattle.particle_models.specs.Reach.{Reach}
use Rattle.content_automaton.specs.Moves.{takes, symbol_at, term_in, IsOfOneTerm, HasTerms}
use Rattle.content_automaton.specs.Built.{set_of}
use Rattle.content_automaton.specs.Automaton.{Automaton, run, term_of, Accepts, IsAutomaton}
use Rattle.content_automaton.specs.Ambiguity.{AreReachedTogether, AreReachedApart}
use Rattle.content_automaton.proofs.Members.{none_contained, contains_head, all_within}
use Rattle.content_automaton.proofs.Numbering.{set_at}
use Rattle.content_automaton.proofs.Moving.{taken_cases}
use Rattle.content_automaton.proofs.Building.{state_within}
use Rattle.content_automaton.proofs.Running.{stands_run, stands_start}
use Rattle.content_automaton.proofs.Reached.{within_table}
use Rattle.content_automaton.proofs.Language.{reached}
use Rattle.content_automaton.proofs.Counting.{state_reach_set}

pub cases_then : {A : Type 0} (r : Option A) (P P' : Type 0) (Q Q' : A → Type 0) → (P → P') → ((x : A) → Q x → Q' x) → MatchOption r P Q → MatchOption r P' Q'
cases_then None P P' Q Q' f g h = f h
cases_then (Some x) P P' Q Q' f g h = g x h

module _ (table : Table) where
  pub one_term_more : (set : List ℕ) (i term other : ℕ) → i < length set → other ≡ symbol_at table (get_or set i 0) → other ≡ term →
      ((q : ℕ) → Contains (take i set) q → symbol_at table q ≡ term) → (q : ℕ) → Contains (take (i + 1) set) q → symbol_at table q ≡ term
  one_term_more set i term other l e f h q c = elim (taken_cases set i q l c) [
    | inl a ↦ h q a
    | inr b ↦ ap (symbol_at table) b ∙ (sym e ∙ f)
  ]

  pub one_term_all : (set : List ℕ) (i term : ℕ) → length set ≤ i → ((q : ℕ) → Contains (take i set) q → symbol_at table q ≡ term) → IsOfOneTerm table set
  one_term_all set i term l h p q a b = h p (rw (take_all i set l) a) ∙ sym (h q (rw (take_all i set l) b))

  module _ {X : Type 0} (f : X → List ℕ) (xs : List X) (s : ℕ) (x : X) (set : List ℕ) (l : s < length xs) (is : x ≡ get_or xs s x) (v : set ≡ f x) where
    same : set_of (map f xs) s ≡ set
    same = set_at f xs s x l is ∙ sym v

    pub fits_at : ((k : ℕ) → k < length xs → All (λ p. p < length table.symbols) (set_of (map f xs) k)) → All (λ p. p < length table.symbols) set
    fits_at h = subst (λ (ys : List ℕ). All (λ p. p < length table.symbols) ys) same (h s l)

    pub terms_at : (y z : ℕ) → HasTerms table set y z → (k : ℕ) × (k < length xs) × HasTerms table (set_of (map f xs) k) y z
    terms_at y z h = (s, l, rw same h)

    pub one_term_at : IsOfOneTerm table set → ((k : ℕ) → k < s → IsOfOneTerm table (set_of (map f xs) k)) → (k : ℕ) → k < s + 1 → IsOfOneTerm table (set_of (map f xs) k)
    one_term_at h before = below_more (λ k. IsOfOneTerm table (set_of (map f xs) k)) s before (rw same h)

module _ (tree : Tree) (table : Table) (are : ArePositionsOf tree table) (accepted : List (List ℕ)) (sets : List (List ℕ)) (a : Automaton) (is : IsAutomaton table accepted sets a) where
  pub sets_fit : {X : Type 0} (f : X → List ℕ) (xs : List X) → map f xs ≡ sets → (s : ℕ) → s < length xs → All (λ p. p < length table.symbols) (set_of (map f xs) s)
  sets_fit f xs e s l =
      let n : length (map f xs) ≡ length xs = length-map xs f in let m = ap length e in
      all_within (set_of (map f xs) s) (length table.symbols) (λ p c. state_within table accepted a.symbols sets (within_table tree table are (takes table accepted)) is.states s (omega arith) p (rw (ap (λ ys. set_of ys s) e) at c))

  inside : (s q : ℕ) → Contains (set_of sets s) q → s < a.count
  inside s q c = elim (cases_lt s a.count) [
    | inl l ↦ l
    | inr l ↦ absurd (none_contained q (rw (get_or_past sets s [] (let n = is.counted in omega arith)) at c))
  ]

  pub reached_apart : {X : Type 0} (f : X → List ℕ) (xs : List X) → map f xs ≡ sets → ((s : ℕ) → s < length xs → IsOfOneTerm table (set_of (map f xs) s)) →
      AreReachedApart tree table accepted a.symbols
  reached_apart f xs e h names below i j x y =
      let s : ℕ = run a 0 names in
      let r = reached tree table are accepted sets a is names s (stands_run table accepted sets a is names [] 0 below (stands_start table accepted sets a is)) in
      let ci : Contains (set_of sets s) i = (r i).1 x in let cj : Contains (set_of sets s) j = (r j).1 y in
      let l = inside s i ci in
      let n : length (map f xs) ≡ length xs = length-map xs f in let m = ap length e in
      h s (omega arith) i j (rw (ap (λ ys. set_of ys s) e) ci) (rw (ap (λ ys. set_of ys s) e) cj)

  pub reached_together : {X : Type 0} (f : X → List ℕ) (xs : List X) → map f xs ≡ sets → (y z : ℕ) → (s : ℕ) × (s < length xs) × HasTerms table (set_of (map f xs) s) y z →
      AreReachedTogether tree table accepted a.symbols y z
  reached_together f xs e y z (s, l, h) =
      let n : length (map f xs) ≡ length xs = length-map xs f in let m = ap length e in
      let ci : Contains (set_of sets s) h.0 = rw (ap (λ ys. set_of ys s) e) at h.2 in
      let cj : Contains (set_of sets s) h.1 = rw (ap (λ ys. set_of ys s) e) at h.3 in
      let p : 0 < s = not_start s h.0 ci in
      let st = state_reach_set tree table are accepted a.symbols (set_of sets s) (is.states.each s p (omega arith)) in
      (st.names, st.below, h.0, h.1, (st.reached h.0).0 ci, (st.reached h.1).0 cj, h.4, h.5, h.6)
    where
      not_start : (s q : ℕ) → Contains (set_of sets s) q → 0 < s
      not_start zero q c = absurd (none_contained q (rw is.states.start at c))
      not_start (suc s) q c = omega arith

  in_set : AreReachedApart tree table accepted a.symbols → (names : List ℕ) → All (λ n. n < a.symbols) names → (p : ℕ) →
      Reach (Accepts table accepted) (IsWord tree 0) names p → term_in table (set_of sets (run a 0 names)) ≡ Some (symbol_at table p)
  in_set apart names below p h =
      let r = reached tree table are accepted sets a is names (run a 0 names) (stands_run table accepted sets a is names [] 0 below (stands_start table accepted sets a is)) in
      first_is (set_of sets (run a 0 names)) ((r p).1 h) (λ q c. apart names below q p ((r q).0 c) h)
    where
      first_is : (set : List ℕ) → Contains set p → ((q : ℕ) → Contains set q → symbol_at table q ≡ symbol_at table p) → term_in table set ≡ Some (symbol_at table p)
      first_is [] c f = absurd (none_contained p c)
      first_is (q ∷ set) c f = ap Some (f q (contains_head q set q refl))

  -- the term at the place that ends every prefix with these names
  pub term_is : AreReachedApart tree table accepted a.symbols → (names : List ℕ) → All (λ n. n < a.symbols) names → (p : ℕ) →
      Reach (Accepts table accepted) (IsWord tree 0) names p → term_of a (run a 0 names) ≡ Some (symbol_at table p)
  term_is apart names below p h =
      let r = reached tree table are accepted sets a is names (run a 0 names) (stands_run table accepted sets a is names [] 0 below (stands_start table accepted sets a is)) in
      is.terms (run a 0 names) (inside (run a 0 names) p ((r p).1 h)) ∙ in_set apart names below p h
