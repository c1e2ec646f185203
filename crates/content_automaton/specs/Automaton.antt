-- An automaton, as its calls show it.
use Rattle.std.specs.Prelude.{◌≡◌, ℕ, ◌+◌, ◌*◌, ◌<◌, ◌≤◌, ◌↔◌, ◌⊎◌, ◌==◌, nat_lt, min, Bool, false, IsTrue, List, [], ◌∷◌, ◌++◌, Option, None, slice_index, slice_index_or, length, Contains, All, MatchOption, if◌then◌else◌}
use Rattle.xs_positions.specs.Positions.{Table}
use Rattle.xs_positions.specs.Tree.{Tree}
use Rattle.xs_positions.specs.PositionWords.{IsWord}
use Rattle.particle_models.specs.Reach.{Reads}
use Rattle.content_automaton.specs.Moves.{takes, term_in, IsOfOneTerm, HasTerms}
use Rattle.content_automaton.specs.Built.{set_of, AreStates, AreSteps}

-- How many states there are beside the dead one; the steps, row by row; how many symbols there are; whether a word may end in a
-- state; whether there is a word; the term that the names of a state end in; and two terms that the same names lead to.
pub record Automaton : Type 0 where
  pub count : ℕ
  pub cells : List ℕ
  pub symbols : ℕ
  pub ends : List Bool
  pub lives : Bool
  pub terms : List (Option ℕ)
  pub pair : Option (ℕ × ℕ)

-- the dead state
abbrev pub dead_of : Automaton → ℕ
dead_of a = a.count

abbrev pub start_of : Automaton → ℕ
start_of a = if a.lives then 0 else dead_of a

-- the state after this one by a symbol
abbrev pub step_of : Automaton → ℕ → ℕ → ℕ
step_of a s n = if nat_lt s a.count then min (slice_index a.cells (s * a.symbols + n)) a.count else a.count

-- the state after this one by some symbols
abbrev pub run : Automaton → ℕ → List ℕ → ℕ
run a s [] = s
run a s (n ∷ names) = run a (step_of a s n) names

-- whether a word may end in the state
abbrev pub accepts_at : Automaton → ℕ → Bool
accepts_at a s = slice_index_or a.ends s false

-- the term that the names of the state end in
abbrev pub term_of : Automaton → ℕ → Option ℕ
term_of a s = slice_index_or a.terms s None

-- the state after some names
abbrev pub state_of : Automaton → List ℕ → ℕ
state_of a names = run a (start_of a) names

-- the term of a position accepts a symbol, whatever came before
abbrev pub Accepts : Table → List (List ℕ) → List ℕ → ℕ → ℕ → Type 0
Accepts table accepted before p n = IsTrue (takes table accepted p n)

-- After symbols the state is not dead exactly where a word of positions begins with them, and accepting exactly where they are a word.
pub record Speaks (tree : Tree) (table : Table) (accepted : List (List ℕ)) (a : Automaton) : Type 0 where
  pub live : (names : List ℕ) → All (λ n. n < a.symbols) names →
      (state_of a names < dead_of a) ↔ ((front rest : List ℕ) × IsWord tree 0 (front ++ rest) × Reads (Accepts table accepted) [] front names)
  pub accepting : (names : List ℕ) → All (λ n. n < a.symbols) names →
      IsTrue (accepts_at a (state_of a names)) ↔ ((ps : List ℕ) × IsWord tree 0 ps × Reads (Accepts table accepted) [] ps names)

-- ---- for proofs

-- a word may end here: with no name, or in a position of the state
abbrev pub MayEnd : Table → Bool → List ℕ → Type 0
MayEnd table starts set = (IsTrue starts × IsTrue table.nullable) ⊎ ((p : ℕ) × Contains set p × Contains table.last p)

-- the automaton of a table of positions, whose states have these sets
pub record IsAutomaton (table : Table) (accepted : List (List ℕ)) (sets : List (List ℕ)) (a : Automaton) : Type 0 where
  pub states : AreStates table accepted a.symbols sets
  pub counted : length sets ≡ a.count
  pub few : a.count ≤ 2048
  pub steps : AreSteps table accepted a.symbols sets a.cells
  pub cells : length a.cells ≡ a.count * a.symbols
  pub ends : (s : ℕ) → s < a.count → IsTrue (slice_index_or a.ends s false) ↔ MayEnd table (s == 0) (set_of sets s)
  pub ends_count : length a.ends ≡ a.count
  pub lives : IsTrue a.lives ↔ (IsTrue table.nullable ⊎ ((p : ℕ) × Contains table.first p))
  pub terms : (s : ℕ) → s < a.count → slice_index_or a.terms s None ≡ term_in table (set_of sets s)
  pub terms_count : length a.terms ≡ a.count
  pub pair : MatchOption a.pair
      ((s : ℕ) → s < a.count → IsOfOneTerm table (set_of sets s))
      (λ pair. (s : ℕ) × (s < a.count) × HasTerms table (set_of sets s) pair.0 pair.1)
