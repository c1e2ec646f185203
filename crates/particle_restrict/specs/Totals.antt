-- Effective total ranges (Structures 3.8.6) of particles without pointless groups, and which of them are emptiable.
use Rattle.std.specs.Prelude.{◌==◌, ◌||◌, Bool, List, [], ◌∷◌}
use Rattle.particle_forms.specs.Ranges as ranges
use Rattle.particle_forms.specs.declared.extent.TotalRange.{TotalRange}
use Rattle.particle_models.specs.Trees.{Tree, Trees, leaf, group, none, member}
use Rattle.particle_models.specs.declared.part.Bounds.{Bounds}
use Rattle.particle_models.specs.declared.part.Compositor.{Compositor}
use Rattle.particle_models.specs.declared.part.Compositor.TheVariants.{Sequence, Choice, All}

-- the range of a group's members, taken once
abbrev pub range_of : Compositor → List TotalRange → TotalRange
range_of Sequence members = ranges.sum_of members
range_of Choice members = ranges.widest_of members
range_of All members = ranges.sum_of members

abbrev pub taken : Bounds → TotalRange → TotalRange
taken bounds range = ranges.times bounds.least bounds.most range

abbrev mutual
  -- the effective total range of a particle
  pub total : Tree → TotalRange
  total (leaf bounds term) = taken bounds ranges.once
  total (group bounds compositor members) = taken bounds (range_of compositor (totals members))

  pub totals : Trees → List TotalRange
  totals none = []
  totals (member first rest) = total first ∷ totals rest

abbrev pub bounds_of : Tree → Bounds
bounds_of (leaf bounds term) = bounds
bounds_of (group bounds compositor members) = bounds

-- Particle Emptiable (Structures 3.9.6): the minimum occurrence, or the least of the effective total range, is 0
abbrev pub is_emptiable : Tree → Bool
is_emptiable tree = (bounds_of tree).least == 0 || (total tree).least == 0

-- which members of a group are emptiable
abbrev pub emptiable_members : Trees → List Bool
emptiable_members none = []
emptiable_members (member first rest) = is_emptiable first ∷ emptiable_members rest
