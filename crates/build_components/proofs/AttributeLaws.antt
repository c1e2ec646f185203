-- The attributes that are used and the attribute groups that are referred to are there.
use Rattle.std.proofs.Common.{◌≡◌, ℕ, ◌<◌, List, [], ◌∷◌, Bool, true, false, Option, None, Some, map}
use Rattle.std.specs.Prelude.{All, IfSome, slice_get, if◌then◌else◌}
use Rattle.std.specs.List.{flat_map}
use Rattle.std.specs.Option.{option_and_then, option_to_list, unwrap_or}
use Rattle.std.proofs.lemmas.List.Elements.{All-nil, All-map}
use Rattle.std.proofs.lemmas.Option.{none-some}
use Rattle.xs_codes.specs.declared.builtin.Builtin.TheVariants.{AnySimpleType}
use Rattle.xs_components.specs.Tables.{Tables}
use Rattle.xs_components.specs.declared.attribute.AttrUse.{AttrUse}
use Rattle.xs_components.specs.declared.attribute.AttributeDecl.{AttributeDecl}
use Rattle.xs_components.specs.declared.attr_group.AttrGroupDef.{AttrGroupDef}
use Rattle.xs_components.specs.declared.common.Place.{Place}
use Rattle.xs_components.specs.declared.common.TypeId.{TypeId}
use Rattle.xs_components.specs.declared.common.TypeId.TheVariants.{Builtin}
use Rattle.component_references.specs.Heights.{IsType}
use Rattle.representations.specs.declared.parts.AttributeRepresentation.{AttributeRepresentation}
use Rattle.representations.specs.declared.parts.Represented.{Represented}
use Rattle.representations.specs.declared.parts.Represented.TheVariants as forms
use Rattle.representations.specs.declared.parts.Representation.{Representation}
use Rattle.representations.specs.declared.source.Source.{Source}
use Rattle.build_types.specs.Types.{type_at, given_type}
use Rattle.build_types.specs.Declarations.{declaration, declared, attributes_by, attributes_of}
use Rattle.build_types.specs.Groups.{attr_groups_by, attr_groups_of, attr_groups}
use Rattle.build_types.specs.Members.{meant_declaration, use_of, uses_by, uses_in, uses, group_by, group_at, groups_referred, prohibited, wildcard}
use Rattle.build_components.proofs.ListLaws.{all-flat_map, all-option, all-one}
use Rattle.build_components.proofs.ThereLaws.{AreBelow, named-below, referred-below}
use Rattle.build_components.proofs.TypeLaws.{named-there}

-- what is true of each declaration that is represented is true of each part
module _ (source : Source) (ids : List TypeId) (P : AttributeDecl → Type 0)
    (one : (attribute : AttributeRepresentation) (rep : Representation) (name : ℕ) → P (declaration source ids attribute rep name))
  where
    unless-prohibited : (is : Bool) (part : AttributeDecl) → P part → All P (if is then [] else part ∷ [])
    unless-prohibited true part p = All-nil P
    unless-prohibited false part p = all-one P part p

    declared-have : (attribute : AttributeRepresentation) (rep : Representation) (name : Option ℕ) → All P (declared source ids attribute rep name)
    declared-have attribute rep None = All-nil P
    declared-have attribute rep (Some name) = unless-prohibited attribute.prohibited (declaration source ids attribute rep name) (one attribute rep name)

    form-have : (form : Represented) (rep : Representation) → All P (attributes_by source ids form rep)
    form-have (forms.Attribute attribute) rep = declared-have attribute rep attribute.name
    form-have _ rep = All-nil P

    pub attributes-have : (reps : List Representation) → All P (flat_map (attributes_of source ids) reps)
    attributes-have reps = all-flat_map P (attributes_of source ids) (λ rep. form-have rep.form rep) reps

module _ (t : Tables) (source : Source) (ids : List TypeId) (there : (place : ℕ) → IsType t (type_at ids place)) where
  or-there : (found : Option TypeId) → IfSome found (IsType t) → IsType t (unwrap_or found (Builtin AnySimpleType))
  or-there None is = tt
  or-there (Some of) is = is

  pub attributes-there : (reps : List Representation) → All (λ (part : AttributeDecl). IsType t part.of) (flat_map (attributes_of source ids) reps)
  attributes-there reps = attributes-have source ids (λ (part : AttributeDecl). IsType t part.of) (λ attribute rep name. or-there (given_type source ids attribute.of rep.members) (named-there t source ids there attribute.of rep.members)) reps

module _ (source : Source) (attributes : List (Option ℕ)) (count : ℕ) (below : AreBelow count attributes) where
  -- the declaration of a use is there
  abbrev pub IsUse : AttrUse → Type 0
  IsUse one = one.attribute < count

  meant-below : (reference : Option ℕ) (place n : ℕ) → meant_declaration source attributes reference place ≡ Some n → n < count
  meant-below (Some name) place n is = named-below count attributes below source.spaces.now.attributes name n is
  meant-below None place n is = below place n is

  used-below : (is : Bool) (attribute : AttributeRepresentation) (rep : Representation) (found : Option ℕ) → ((n : ℕ) → found ≡ Some n → n < count)
      → All IsUse (if is then [] else map (use_of source attributes attribute rep) (option_to_list found))
  used-below true attribute rep found low = All-nil IsUse
  used-below false attribute rep found low = All-map IsUse (use_of source attributes attribute rep) (option_to_list found) (all-option (λ (n : ℕ). n < count) found low)

  by-below : (form : Represented) (rep : Representation) (place : ℕ) → All IsUse (uses_by source attributes form rep place)
  by-below (forms.Attribute attribute) rep place =
      used-below attribute.prohibited attribute rep (meant_declaration source attributes attribute.reference place) (meant-below attribute.reference place)
  by-below _ rep place = All-nil IsUse

  in-below : (found : Option Representation) (place : ℕ) → All IsUse (uses_in source attributes found place)
  in-below None place = All-nil IsUse
  in-below (Some rep) place = by-below rep.form rep place

  pub uses-there : (members : List ℕ) → All IsUse (uses source attributes members)
  uses-there members = all-flat_map IsUse (λ (place : ℕ). uses_in source attributes (slice_get source.reps.now place) place) (λ place. in-below (slice_get source.reps.now place) place) members

module _ (source : Source) (numbers : List (Option ℕ)) (count : ℕ) (below : AreBelow count numbers) where
  by-form : (form : Represented) (n : ℕ) → group_by source numbers form ≡ Some n → n < count
  by-form (forms.AttributeGroupReference to) n is = referred-below count numbers below source.spaces.now.attr_groups to n is
  by-form _ n is = absurd (none-some n is)

  by-found : (found : Option Representation) (n : ℕ) → option_and_then (λ (rep : Representation). group_by source numbers rep.form) found ≡ Some n → n < count
  by-found None n is = absurd (none-some n is)
  by-found (Some rep) n is = by-form rep.form n is

  pub referred-there : (members : List ℕ) → All (λ n. n < count) (groups_referred source numbers members)
  referred-there members =
      all-flat_map (λ n. n < count) (λ (member : ℕ). option_to_list (group_at source numbers member))
      (λ member. all-option (λ n. n < count) (group_at source numbers member) (by-found (slice_get source.reps.now member))) members

-- what is true of each attribute group that is represented is true of each part
module _ (source : Source) (attributes numbers : List (Option ℕ)) where
  abbrev pub group_of : ℕ → Place → List ℕ → AttrGroupDef
  group_of name at members = record {
    name = name;
    at = at;
    uses = uses source attributes members;
    groups = groups_referred source numbers members;
    prohibited = prohibited source members;
    wildcard = wildcard source members;
  }

  module _ (P : AttrGroupDef → Type 0) (one : (name : ℕ) (at : Place) (members : List ℕ) → P (group_of name at members)) where
    group-has : (form : Represented) (at : Place) (members : List ℕ) → All P (attr_groups_by source attributes numbers form at members)
    group-has (forms.AttributeGroup name) at members = all-one P (group_of name at members) (one name at members)
    group-has _ at members = All-nil P

    pub attr-groups-have : All P (attr_groups source attributes numbers)
    attr-groups-have = all-flat_map P (attr_groups_of source attributes numbers) (λ rep. group-has rep.form rep.at rep.members) source.reps.now
