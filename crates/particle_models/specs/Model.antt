-- A model unrolled: its terms, and the positions of its expression.
use Rattle.std.specs.Prelude.{◌≡◌, ℕ, Bool, IsTrue, List, [], map, slice_index, slice_index_or}
use Rattle.xs_positions.specs.Positions.{Table, ArePositionsOf}
use Rattle.particle_models.specs.Particles.{Particle, Place}
use Rattle.particle_models.specs.Unrolled.{places, unrolled}

-- the numbers of the terms that have copies, in order; and the positions, whose symbols are places in that list
pub record UnrolledModel : Type 0 where
  pub terms : List ℕ
  pub table : Table

-- These are the terms and the positions of a model without an all. A term is inhabited where it accepts some name.
pub record IsUnrolled (inhabited : ℕ → Bool) (model : Particle) (u : UnrolledModel) : Type 0 where
  pub terms : u.terms ≡ map (λ (place : Place). place.number) (places model [])
  pub positions : ArePositionsOf (unrolled inhabited model 0) u.table

-- what stands in the place of no term
abbrev pub blank : Place
blank = record { path = []; number = 0 }

-- the place of the term of a position
abbrev pub place_of : Particle → Table → ℕ → Place
place_of model table p = slice_index_or (places model []) (slice_index table.symbols p) blank

-- the terms that are inhabited are those that accept some name
pub record IsInhabitedBy {Name : Type 0} (accepts : ℕ → Name → Bool) (inhabited : ℕ → Bool) : Type 0 where
  pub lives : (number : ℕ) (name : Name) → IsTrue (accepts number name) → IsTrue (inhabited number)
  pub has : (number : ℕ) → IsTrue (inhabited number) → (name : Name) × IsTrue (accepts number name)

-- a position accepts the names that its term accepts, whatever came before
abbrev pub Accepts : {Name : Type 0} → (ℕ → Name → Bool) → Particle → Table → List Name → ℕ → Name → Type 0
Accepts accepts model table before p name = IsTrue (accepts (place_of model table p).number name)
