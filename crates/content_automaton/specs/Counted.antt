-- How many states a content model has.
use Rattle.std.specs.Prelude.{◌≡◌, ◌≢◌, ℕ, suc, ◌↔◌, Bool, List, [], length, Contains}
use Rattle.std.specs.List.{AllPairs}
use Rattle.std.specs.List.Sorted.{IsStrictlyIncreasing}
use Rattle.xs_positions.specs.PositionWords.{IsWord}
use Rattle.xs_positions.specs.Positions.{Table}
use Rattle.particle_models.specs.Particles.{Particle}
use Rattle.particle_models.specs.Unrolled.{unrolled}
use Rattle.particle_models.specs.Model.{Accepts}
use Rattle.particle_models.specs.Reach.{Reach}
use Rattle.content_automaton.specs.Terms.{ExpandedName}

module _ (accepts : ℕ → ExpandedName → Bool) (inhabited : ℕ → Bool) (model : Particle) (table : Table) where
  -- the set, written as a rising list, holds exactly the positions in which a prefix with some names may end, and is not empty
  pub record IsReachSetOf (set : List ℕ) : Type 0 where
    pub filled : set ≢ []
    pub rises : IsStrictlyIncreasing set
    pub names : List ExpandedName
    pub reached : (q : ℕ) → Contains set q ↔ Reach (Accepts accepts model table) (IsWord (unrolled inhabited model 0) 0) names q

  -- so many different sets there are, with one of its own before the first name
  pub record IsStateCountOf (count : ℕ) : Type 0 where
    pub sets : List (List ℕ)
    pub all : (set : List ℕ) → Contains sets set ↔ IsReachSetOf set
    pub different : AllPairs (λ x y. x ≢ y) sets
    pub counted : count ≡ suc (length sets)
