-- What was found is an automaton.
use Rattle.std.proofs.Common.{◌≡◌, ℕ, ◌*◌, ◌<◌, ◌≤◌, ◌↔◌, ◌⊎◌, ◌==◌, Bool, false, IsTrue, List, Option, None, length, map, get_or, refl, ap, subst, sym, ◌∙◌, arith}
use Rattle.std.specs.Prelude.{Contains, All, MatchOption}
use Rattle.std.proofs.lemmas.List.{length-map}
use Rattle.xs_positions.specs.Tree.{Tree}
use Rattle.xs_positions.specs.Positions.{Table, ArePositionsOf}
use Rattle.content_automaton.specs.Moves.{takes, term_in, IsOfOneTerm, HasTerms}
use Rattle.content_automaton.specs.Built.{set_of, AreStates, AreSteps}
use Rattle.content_automaton.specs.Automaton.{Automaton, MayEnd, IsAutomaton}
use Rattle.content_automaton.specs.Ambiguity.{AreReachedApart, AreReachedTogether}
use Rattle.content_automaton.proofs.Members.{all_within}
use Rattle.content_automaton.proofs.Building.{state_within}
use Rattle.content_automaton.proofs.Reached.{within_table}
use Rattle.content_automaton.proofs.Pairing.{cases_then, reached_apart, reached_together}

module _ {X : Type 0} (f : X → List ℕ) (table : Table) (accepted : List (List ℕ)) (symbols : ℕ) (xs keys : List X) (same : xs ≡ keys) (states : AreStates table accepted symbols (map f keys)) where
  here : AreStates table accepted symbols (map f xs)
  here = subst (λ (ys : List X). AreStates table accepted symbols (map f ys)) (sym same) states

  pub states_fit : (tree : Tree) → ArePositionsOf tree table → (s : ℕ) → s < length xs → All (λ p. p < length table.symbols) (set_of (map f xs) s)
  states_fit tree are s l =
      let n : length (map f xs) ≡ length xs = length-map xs f in
      all_within (set_of (map f xs) s) (length table.symbols)
      (λ p c. state_within table accepted symbols (map f xs) (within_table tree table are (takes table accepted)) here s (omega arith) p c)

  module _ (cells : List ℕ) (ends : List Bool) (lives : Bool) (terms : List (Option ℕ)) (pair : Option (ℕ × ℕ))
      (few : length keys ≤ 2048) (steps : AreSteps table accepted symbols (map f keys) cells) (cells_are : length cells ≡ length keys * symbols)
      (ends_are : (s : ℕ) → s < length xs → IsTrue (get_or ends s false) ↔ MayEnd table (s == 0) (set_of (map f xs) s)) (ends_count : length ends ≡ length xs)
      (lives_is : IsTrue lives ↔ (IsTrue table.nullable ⊎ ((p : ℕ) × Contains table.first p)))
      (terms_are : (s : ℕ) → s < length xs → get_or terms s None ≡ term_in table (set_of (map f xs) s)) (terms_count : length terms ≡ length xs)
      (pair_is : MatchOption pair ((s : ℕ) → s < length xs → IsOfOneTerm table (set_of (map f xs) s)) (λ pair. (s : ℕ) × (s < length xs) × HasTerms table (set_of (map f xs) s) pair.0 pair.1)) where
    abbrev automaton : Automaton
    automaton = record { count = length ends; cells = cells; symbols = symbols; ends = ends; lives = lives; terms = terms; pair = pair }

    pub is_automaton : IsAutomaton table accepted (map f xs) automaton
    is_automaton =
        let n : length (map f xs) ≡ length xs = length-map xs f in let k = ap length same in
        let e : length keys ≡ length ends = omega arith in record {
          states = here;
          counted = omega arith;
          few = omega arith;
          steps = subst (λ (ys : List X). AreSteps table accepted symbols (map f ys) cells) (sym same) steps;
          cells = cells_are ∙ ap (λ k. k * symbols) e;
          ends = λ s l. ends_are s (omega arith);
          ends_count = refl;
          lives = lives_is;
          terms = λ s l. terms_are s (omega arith);
          terms_count = omega arith;
          pair = cases_then pair _ _ _ _ (λ h s l. h s (omega arith)) (λ p h. (h.0, (let l = h.1 in omega arith), h.2)) pair_is;
        }

    pub pair_reached : (tree : Tree) → ArePositionsOf tree table → MatchOption pair (AreReachedApart tree table accepted symbols) (λ pair. AreReachedTogether tree table accepted symbols pair.0 pair.1)
    pair_reached tree are = cases_then pair _ _ _ _
        (λ h. reached_apart tree table are accepted (map f xs) automaton is_automaton f xs refl h)
        (λ p h. reached_together tree table are accepted (map f xs) automaton is_automaton f xs refl p.0 p.1 h)
        pair_is
