-- The states that were found so far, and the steps between them.
use Rattle.std.specs.Prelude.{◌≡◌, ◌≢◌, ℕ, ◌+◌, ◌*◌, ◌<◌, ◌≤◌, ◌↔◌, ◌⊎◌, ◌==◌, IsTrue, List, [], ◌∷◌, ◌++◌, slice_index, slice_index_or, length, Contains, All}
use Rattle.std.specs.List.Sorted.{IsStrictlyIncreasing}
use Rattle.xs_positions.specs.Positions.{Table}
use Rattle.content_automaton.specs.Moves.{takes, Comes, Ends}

-- The set of a state. That of the start is empty, and so is that of each number past the last state: those are dead.
abbrev pub set_of : List (List ℕ) → ℕ → List ℕ
set_of states s = slice_index_or states s []

-- no state has this set, which is not empty
pub record IsNew (states : List (List ℕ)) (set : List ℕ) : Type 0 where
  pub filled : set ≢ []
  pub other : (k : ℕ) → k < length states → set_of states k ≢ set

-- a state, not the start, or dead
pub record IsNumber (states : List (List ℕ)) (s : ℕ) : Type 0 where
  pub not_start : 0 < s
  pub live : (s < length states) ⊎ (2048 ≤ s)

-- the set was looked up among the states, and is now one of them unless it is empty
pub record IsNumbered (old new : List (List ℕ)) (set : List ℕ) (to : ℕ) : Type 0 where
  pub grown : (new ≡ old) ⊎ ((new ≡ old ++ set ∷ []) × IsNew old set)
  pub is : set_of new to ≡ set
  pub number : IsNumber new to
  pub few : length new ≤ 2048

-- the set holds the positions that come after a state by a symbol
abbrev pub IsAfter : Table → List (List ℕ) → List (List ℕ) → ℕ → ℕ → List ℕ → Type 0
IsAfter table accepted states s n set = (q : ℕ) → Contains set q ↔ (Comes table (s == 0) (set_of states s) q × IsTrue (takes table accepted q n))

-- some names lead to exactly these positions
abbrev pub IsReached : Table → List (List ℕ) → ℕ → List ℕ → Type 0
IsReached table accepted symbols set =
    (names : List ℕ) × All (λ n. n < symbols) names × ((q : ℕ) → Contains set q ↔ Ends table (takes table accepted) names q)

-- a rising set of positions that some names reach
pub record IsState (table : Table) (accepted : List (List ℕ)) (symbols : ℕ) (set : List ℕ) : Type 0 where
  pub filled : set ≢ []
  pub rises : IsStrictlyIncreasing set
  pub reached : IsReached table accepted symbols set

-- The first is the start. Each other one is reached by some names, and no two are the same.
pub record AreStates (table : Table) (accepted : List (List ℕ)) (symbols : ℕ) (states : List (List ℕ)) : Type 0 where
  pub some : 0 < length states
  pub start : set_of states 0 ≡ []
  pub each : (k : ℕ) → 0 < k → k < length states → IsState table accepted symbols (set_of states k)
  pub apart : (i j : ℕ) → i < j → j < length states → set_of states i ≢ set_of states j

-- there are more states than the limit
abbrev pub AreTooMany : Table → List (List ℕ) → ℕ → Type 0
AreTooMany table accepted symbols = (states : List (List ℕ)) × AreStates table accepted symbols states × (2048 < length states)

-- the cell leads from a state by a symbol
pub record IsStep (table : Table) (accepted : List (List ℕ)) (states : List (List ℕ)) (s n to : ℕ) : Type 0 where
  pub number : IsNumber states to
  pub after : IsAfter table accepted states s n (set_of states to)

-- each cell, row by row, leads from its state by its symbol
abbrev pub AreSteps : Table → List (List ℕ) → ℕ → List (List ℕ) → List ℕ → Type 0
AreSteps table accepted symbols states cells =
    (s n : ℕ) → n < symbols → s * symbols + n < length cells → IsStep table accepted states s n (slice_index cells (s * symbols + n))

-- the positions come after those of a state
abbrev pub ComesFrom : Table → List (List ℕ) → ℕ → List ℕ → Type 0
ComesFrom table states s next = (q : ℕ) → Contains next q ↔ Comes table (s == 0) (set_of states s) q

-- A row of cells up to a symbol: the states so far, at least so many, with this state among them, the cells so far, and what comes after the state.
pub record IsRow (table : Table) (accepted : List (List ℕ)) (symbols : ℕ) (states : List (List ℕ)) (cells : List ℕ) (state n : ℕ) (next : List ℕ) (least : ℕ) : Type 0 where
  pub states_are : AreStates table accepted symbols states
  pub few : length states ≤ 2048
  pub more : least ≤ length states
  pub here : state < length states
  pub steps : AreSteps table accepted symbols states cells
  pub cells_are : length cells ≡ state * symbols + n
  pub from : ComesFrom table states state next
