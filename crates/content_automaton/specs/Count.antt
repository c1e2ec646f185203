-- How many states there are.
use Rattle.std.specs.Prelude.{◌≡◌, ◌≢◌, ℕ, suc, ◌<◌, ◌↔◌, List, [], length, Contains, All}
use Rattle.std.specs.List.{AllPairs}
use Rattle.std.specs.List.Sorted.{IsStrictlyIncreasing}
use Rattle.xs_positions.specs.Tree.{Tree}
use Rattle.xs_positions.specs.PositionWords.{IsWord}
use Rattle.xs_positions.specs.Positions.{Table}
use Rattle.particle_models.specs.Reach.{Reach}
use Rattle.content_automaton.specs.Automaton.{Accepts}

-- the set, written as a rising list, holds exactly the positions in which a prefix with some names may end, and is not empty
pub record IsReachSet (tree : Tree) (table : Table) (accepted : List (List ℕ)) (symbols : ℕ) (set : List ℕ) : Type 0 where
  pub filled : set ≢ []
  pub rises : IsStrictlyIncreasing set
  pub names : List ℕ
  pub below : All (λ n. n < symbols) names
  pub reached : (q : ℕ) → Contains set q ↔ Reach (Accepts table accepted) (IsWord tree 0) names q

-- so many different sets there are, with one of its own before the first name
pub record IsStateCount (tree : Tree) (table : Table) (accepted : List (List ℕ)) (symbols : ℕ) (count : ℕ) : Type 0 where
  pub sets : List (List ℕ)
  pub all : (set : List ℕ) → Contains sets set ↔ IsReachSet tree table accepted symbols set
  pub different : AllPairs (λ x y. x ≢ y) sets
  pub counted : count ≡ suc (length sets)
