-- Model groups by their representations (Structures 3.7.2).
use Rattle.std.specs.Prelude.{ℕ, List, [], ◌∷◌, Option, None}
use Rattle.std.specs.List.{flat_map}
use Rattle.xs_components.specs.declared.common.Place.{Place}
use Rattle.xs_components.specs.declared.group.GroupDef.{GroupDef}
use Rattle.representations.specs.declared.parts.Represented.{Represented}
use Rattle.representations.specs.declared.parts.Represented.TheVariants as forms
use Rattle.representations.specs.declared.parts.Representation.{Representation}
use Rattle.set_representations.specs.Numbers.{numbers_of, first_number}

-- a group with this particle
abbrev pub groups_by : Represented → Place → Option ℕ → List GroupDef
groups_by (forms.Group name) at particle = record { name = name; at = at; particle = particle } ∷ []
groups_by _ at particle = []

-- groups before their particles are known
abbrev pub bare_groups : Representation → List GroupDef
bare_groups rep = groups_by rep.form rep.at None

-- the numbers of groups by place, where so many are there before
abbrev pub group_numbers : ℕ → List Representation → List (Option ℕ)
group_numbers before reps = numbers_of bare_groups before reps

-- where particles have these numbers by place
module _ (particles : List (Option ℕ)) where
  -- the particle of a group is the one that stands in it
  abbrev pub particle_of : Representation → Option ℕ
  particle_of rep = first_number particles rep.members

  abbrev pub groups_of : Representation → List GroupDef
  groups_of rep = groups_by rep.form rep.at (particle_of rep)

  -- all groups, in the order of their representations
  abbrev pub groups : List Representation → List GroupDef
  groups reps = flat_map groups_of reps
