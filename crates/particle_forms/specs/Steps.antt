-- The range of a term by those of the particles that it holds or refers to.
use Rattle.std.specs.Prelude.{ℕ, ◌<◌, List, Option, None, Some, All as Each, IfSome, length, map, slice_index_or}
use Rattle.xs_components.specs.Tables.{Tables}
use Rattle.xs_components.specs.declared.particle.Term.{Term}
use Rattle.xs_components.specs.declared.particle.Term.TheVariants.{Element, Any, Group, Sequence, Choice, All}
use Rattle.component_references.specs.Ranked.{held_particles, named_group}
use Rattle.particle_forms.specs.Models.{group_particle}
use Rattle.particle_forms.specs.Ranges.{nothing, once, sum_of, widest_of}
use Rattle.particle_forms.specs.declared.extent.TotalRange.{TotalRange}

-- the range of a number in a table
abbrev pub known : List TotalRange → ℕ → TotalRange
known table id = slice_index_or table id nothing

module _ (t : Tables) (range : ℕ → TotalRange) where
  abbrev pub group_range : Option ℕ → TotalRange
  group_range None = nothing
  group_range (Some particle) = range particle

  abbrev pub term_range : Term → TotalRange
  term_range (Element element) = once
  term_range (Any wildcard) = once
  term_range (Group group) = group_range (group_particle t group)
  term_range (Sequence members) = sum_of (map range members)
  term_range (Choice members) = widest_of (map range members)
  term_range (All members) = sum_of (map range members)

-- the particles that the term holds, the group that it refers to and that group's particle are there
pub record HasParts (t : Tables) (count : ℕ) (of : Term) : Type 0 where
  pub held : Each (λ id. id < count) (held_particles of)
  pub group : IfSome (named_group of) (λ g. g < length t.groups.parts)
  pub particle : IfSome (named_group of) (λ g. IfSome (group_particle t g) (λ id. id < count))
