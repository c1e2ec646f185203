-- Attribute groups by their representations (Structures 3.6.2).
use Rattle.std.specs.Prelude.{ℕ, List, [], ◌∷◌, Option, None}
use Rattle.std.specs.List.{flat_map}
use Rattle.xs_components.specs.declared.attr_group.AttrGroupDef.{AttrGroupDef}
use Rattle.xs_components.specs.declared.common.Place.{Place}
use Rattle.representations.specs.declared.parts.Represented.{Represented}
use Rattle.representations.specs.declared.parts.Represented.TheVariants as forms
use Rattle.representations.specs.declared.parts.Representation.{Representation}
use Rattle.representations.specs.declared.source.Source.{Source}
use Rattle.build_types.specs.Members.{uses, groups_referred, prohibited, wildcard}

-- where attribute declarations and attribute groups have these numbers by place
module _ (source : Source) (attributes groups : List (Option ℕ)) where
  abbrev pub attr_groups_by : Represented → Place → List ℕ → List AttrGroupDef
  attr_groups_by (forms.AttributeGroup name) at members = record {
    name = name;
    at = at;
    uses = uses source attributes members;
    groups = groups_referred source groups members;
    prohibited = prohibited source members;
    wildcard = wildcard source members;
  } ∷ []
  attr_groups_by _ at members = []

  abbrev pub attr_groups_of : Representation → List AttrGroupDef
  attr_groups_of rep = attr_groups_by rep.form rep.at rep.members

  -- all, in the order of their representations
  abbrev pub attr_groups : List AttrGroupDef
  attr_groups = flat_map attr_groups_of source.reps.now

-- an attribute group before it is built
abbrev pub empty_group : ℕ → Place → AttrGroupDef
empty_group name at = record { name = name; at = at; uses = []; groups = []; prohibited = []; wildcard = None }

abbrev pub empty_groups_by : Represented → Place → List AttrGroupDef
empty_groups_by (forms.AttributeGroup name) at = empty_group name at ∷ []
empty_groups_by _ at = []

abbrev pub empty_groups : Representation → List AttrGroupDef
empty_groups rep = empty_groups_by rep.form rep.at
