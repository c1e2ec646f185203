-- When a group restricts a group, where it is known which member restricts which (Structures 3.9.6).
use Rattle.std.specs.Prelude.{ℕ, ◌*◌, Bool, List, length}
use Rattle.particle_restrict.specs.Maps.{HasMap, HasLaxMap, HasFirstMap, EachRestrictsSome}
use Rattle.particle_models.specs.declared.part.Bounds.{Bounds}
use Rattle.particle_models.specs.declared.part.Compositor.{Compositor}
use Rattle.particle_models.specs.declared.part.Compositor.TheVariants.{Sequence, Choice, All}
use Rattle.particle_restrict.specs.Occurrence.{IsRangeOk, most_by}

-- `Restricts i j`: member i of the group restricts member j of the base, of whose members these are emptiable
module _ (Restricts : ℕ → ℕ → Type 0) (bounds base : Bounds) (members : ℕ) (emptiable : List Bool) where
  -- rcase-Recurse (Structures 3.9.6): all over all, sequence over sequence.
  pub record IsRecurse : Type 0 where
    pub range : IsRangeOk bounds.least bounds.most base
    pub map : HasMap Restricts members emptiable

  -- rcase-RecurseLax (Structures 3.9.6): choice over choice.
  pub record IsRecurseLax : Type 0 where
    pub range : IsRangeOk bounds.least bounds.most base
    pub map : HasLaxMap Restricts members (length emptiable)

  -- rcase-RecurseUnordered (Structures 3.9.6): sequence over all.
  pub record IsRecurseUnordered : Type 0 where
    pub range : IsRangeOk bounds.least bounds.most base
    pub map : HasFirstMap Restricts members emptiable

  -- rcase-MapAndSum (Structures 3.9.6): sequence over choice.
  pub record IsMapAndSum : Type 0 where
    pub range : IsRangeOk (bounds.least * members) (most_by bounds.most members) base
    pub each : EachRestrictsSome Restricts members (length emptiable)

  -- every other pair of groups is forbidden
  abbrev pub GroupRestricts : Compositor → Compositor → Type 0
  GroupRestricts Sequence Sequence = IsRecurse
  GroupRestricts Sequence Choice = IsMapAndSum
  GroupRestricts Sequence All = IsRecurseUnordered
  GroupRestricts Choice Sequence = ⊥
  GroupRestricts Choice Choice = IsRecurseLax
  GroupRestricts Choice All = ⊥
  GroupRestricts All Sequence = ⊥
  GroupRestricts All Choice = ⊥
  GroupRestricts All All = IsRecurse
