-- The attributes that stand in a complex type or an attribute group (Structures 3.4.2, 3.6.2).
use Rattle.std.specs.Prelude.{ℕ, List, [], ◌∷◌, Option, None, Some, map, slice_get, if◌then◌else◌}
use Rattle.std.specs.List.{flat_map}
use Rattle.std.specs.Option.{option_or, option_and_then, option_to_list}
use Rattle.xs_components.specs.declared.attribute.AttrUse.{AttrUse}
use Rattle.xs_components.specs.declared.common.Wildcard.{Wildcard}
use Rattle.representations.specs.declared.parts.AttributeRepresentation.{AttributeRepresentation}
use Rattle.representations.specs.declared.parts.Represented.{Represented}
use Rattle.representations.specs.declared.parts.Represented.TheVariants as forms
use Rattle.representations.specs.declared.parts.Representation.{Representation}
use Rattle.representations.specs.declared.source.Source.{Source}
use Rattle.set_representations.specs.Numbers.{number_at, number_named}
use Rattle.build_types.specs.Values.{value_of}
use Rattle.build_types.specs.declared.members.AttributeParts.{AttributeParts}

-- where attribute declarations have these numbers by place
module _ (source : Source) (attributes : List (Option ℕ)) where
  -- the declaration at the top that is referred to, or the one that stands there
  abbrev pub meant_declaration : Option ℕ → ℕ → Option ℕ
  meant_declaration (Some name) place = number_named attributes source.spaces.now.attributes name
  meant_declaration None place = number_at attributes place

  abbrev pub use_of : AttributeRepresentation → Representation → ℕ → AttrUse
  use_of attribute rep declared = record { attribute = declared; at = rep.at; required = attribute.required; value = value_of source rep.scope attribute.value }

  -- an attribute use (Structures 3.2.2); a prohibited attribute is none
  abbrev pub used : AttributeRepresentation → Representation → ℕ → List AttrUse
  used attribute rep place = if attribute.prohibited then [] else map (use_of attribute rep) (option_to_list (meant_declaration attribute.reference place))

  abbrev pub uses_by : Represented → Representation → ℕ → List AttrUse
  uses_by (forms.Attribute attribute) rep place = used attribute rep place
  uses_by _ rep place = []

  abbrev pub uses_in : Option Representation → ℕ → List AttrUse
  uses_in None place = []
  uses_in (Some rep) place = uses_by rep.form rep place

  abbrev pub uses_at : ℕ → List AttrUse
  uses_at place = uses_in (slice_get source.reps.now place) place

  -- the attribute uses among members, in order
  abbrev pub uses : List ℕ → List AttrUse
  uses members = flat_map uses_at members

-- where attribute groups have these numbers by place
module _ (source : Source) (groups : List (Option ℕ)) where
  abbrev pub group_by : Represented → Option ℕ
  group_by (forms.AttributeGroupReference to) = option_and_then (number_named groups source.spaces.now.attr_groups) to
  group_by _ = None

  abbrev pub group_at : ℕ → Option ℕ
  group_at place = option_and_then (λ rep. group_by rep.form) (slice_get source.reps.now place)

  -- the attribute groups that members refer to, in order
  abbrev pub groups_referred : List ℕ → List ℕ
  groups_referred members = flat_map (λ member. option_to_list (group_at member)) members

module _ (source : Source) where
  abbrev pub prohibited_by : Represented → Option ℕ
  prohibited_by (forms.Attribute attribute) = if attribute.prohibited then option_or attribute.reference attribute.name else None
  prohibited_by _ = None

  abbrev pub prohibited_at : ℕ → Option ℕ
  prohibited_at place = option_and_then (λ rep. prohibited_by rep.form) (slice_get source.reps.now place)

  -- the names of the attributes that are prohibited among members, in order
  abbrev pub prohibited : List ℕ → List ℕ
  prohibited members = flat_map (λ member. option_to_list (prohibited_at member)) members

  abbrev pub wildcard_by : Represented → Option Wildcard
  wildcard_by (forms.AnyAttribute wildcard) = Some wildcard
  wildcard_by _ = None

  abbrev pub wildcard_at : ℕ → Option Wildcard
  wildcard_at place = option_and_then (λ rep. wildcard_by rep.form) (slice_get source.reps.now place)

  -- the wildcard that stands among members (Structures 3.10.2)
  abbrev pub wildcard : List ℕ → Option Wildcard
  wildcard [] = None
  wildcard (member ∷ members) = option_or (wildcard_at member) (wildcard members)

abbrev pub attribute_parts : Source → List (Option ℕ) → List (Option ℕ) → List ℕ → AttributeParts
attribute_parts source attributes groups members = record {
  uses = uses source attributes members;
  groups = groups_referred source groups members;
  prohibited = prohibited source members;
  wildcard = wildcard source members;
}
