-- An element represents as many groups, and as many attribute groups, as it declares.
use Rattle.std.proofs.Common.{◌≡◌, ℕ, List, [], ◌∷◌, Option, None, Some, length, if◌then◌else◌, refl}
use Rattle.xs_components.specs.declared.common.Place.{Place}
use Rattle.representations.specs.declared.parts.Represented.{Represented}
use Rattle.representations.specs.declared.parts.Represented.TheVariants as forms
use Rattle.representations.specs.declared.parts.Representation.{Representation}
use Rattle.set_representations.specs.Numbers.{numbers_of}
use Rattle.build_types.specs.Groups.{empty_groups, empty_groups_by}
use Rattle.build_components.specs.Groups.{bare_groups, groups_by}
use Rattle.redefine_names.specs.Components.{declared_by, declared_type}
use Rattle.redefine_names.specs.declared.declared.VersionKind.TheVariants as kinds
use Rattle.redefine_names.specs.Numbers.{is_kind, of_kind, kind_numbers}
use Rattle.redefine_names.proofs.PairLaws.{numbers-alike}

module _ (rep : Representation) where
  no-group : (name : Option ℕ) → length (if is_kind kinds.Group (declared_type name) then rep ∷ [] else []) ≡ 0
  no-group None = refl
  no-group (Some name) = refl

  no-attr-group : (name : Option ℕ) → length (if is_kind kinds.AttributeGroup (declared_type name) then rep ∷ [] else []) ≡ 0
  no-attr-group None = refl
  no-attr-group (Some name) = refl

  groups-of : (form : Represented) (at : Place) → length (if is_kind kinds.Group (declared_by form) then rep ∷ [] else []) ≡ length (groups_by form at None)
  groups-of (forms.SimpleType name finals) at = no-group name
  groups-of (forms.ComplexType head) at = no-group head.name
  groups-of (forms.Group name) at = refl
  groups-of _ at = refl

  attr-groups-of : (form : Represented) (at : Place) → length (if is_kind kinds.AttributeGroup (declared_by form) then rep ∷ [] else []) ≡ length (empty_groups_by form at)
  attr-groups-of (forms.SimpleType name finals) at = no-attr-group name
  attr-groups-of (forms.ComplexType head) at = no-attr-group head.name
  attr-groups-of (forms.AttributeGroup name) at = refl
  attr-groups-of _ at = refl

pub group-numbers : (reps : List Representation) → kind_numbers kinds.Group reps ≡ numbers_of bare_groups 0 reps
group-numbers reps = numbers-alike (of_kind kinds.Group) bare_groups (λ rep. groups-of rep rep.form rep.at) 0 reps

pub attr-group-numbers : (reps : List Representation) → kind_numbers kinds.AttributeGroup reps ≡ numbers_of empty_groups 0 reps
attr-group-numbers reps = numbers-alike (of_kind kinds.AttributeGroup) empty_groups (λ rep. attr-groups-of rep rep.form rep.at) 0 reps
