-- What references mean in what redefines a component (Structures 4.2.2): those to its own name mean its original.
use Rattle.std.specs.Prelude.{ℕ, zero, suc, Bool, true, false, ◌&&◌, ◌==◌, List, Option, None, Some, map, slice_get, if◌then◌else◌}
use Rattle.std.specs.List.{list_any}
use Rattle.std.specs.Option.{option_map, option_and_then}
use Rattle.xs_names.specs.Names.{NameTable}
use Rattle.representations.specs.declared.parts.Represented.{Represented}
use Rattle.representations.specs.declared.parts.Represented.TheVariants as forms
use Rattle.representations.specs.declared.parts.Representation.{Representation}
use Rattle.representations.specs.declared.parts.TypeName.{TypeName}
use Rattle.representations.specs.declared.parts.TypeName.TheVariants as types
use Rattle.redefine_names.specs.declared.declared.Declared.{Declared}
use Rattle.redefine_names.specs.declared.declared.VersionKind.{VersionKind}
use Rattle.redefine_names.specs.declared.declared.VersionKind.TheVariants as kinds
use Rattle.redefine_names.specs.declared.redirections.Redirection.{Redirection}
use Rattle.redefine_names.specs.Components.{declared_at}
use Rattle.redefine_names.specs.VersionNames.{original_at, version_at}

abbrev pub same_kind : VersionKind → VersionKind → Bool
same_kind kinds.Type kinds.Type = true
same_kind kinds.Group kinds.Group = true
same_kind kinds.AttributeGroup kinds.AttributeGroup = true
same_kind _ _ = false

-- what a reference of a kind to a name becomes
abbrev pub meant : Redirection → VersionKind → ℕ → ℕ
meant r kind name = if same_kind kind r.kind && r.from == name then r.to else name

abbrev pub meant_type : Redirection → TypeName → TypeName
meant_type r types.AnyType = types.AnyType
meant_type r (types.Builtin of) = types.Builtin of
meant_type r (types.Named name) = types.Named (meant r kinds.Type name)

-- the form with its references to types, groups and attribute groups redirected
abbrev pub redirected_by : Redirection → Represented → Represented
redirected_by r (forms.Element element) = forms.Element (record element { of = option_map (meant_type r) element.of })
redirected_by r (forms.Attribute attribute) = forms.Attribute (record attribute { of = option_map (meant_type r) attribute.of })
redirected_by r (forms.Restriction base) = forms.Restriction (option_map (meant_type r) base)
redirected_by r (forms.ItemType of) = forms.ItemType (option_map (meant_type r) of)
redirected_by r (forms.Union members) = forms.Union (map (meant_type r) members)
redirected_by r (forms.Derivation by_extension base) = forms.Derivation by_extension (option_map (meant_type r) base)
redirected_by r (forms.GroupReference to) = forms.GroupReference (option_map (meant r kinds.Group) to)
redirected_by r (forms.AttributeGroupReference to) = forms.AttributeGroupReference (option_map (meant r kinds.AttributeGroup) to)
redirected_by r form = form

abbrev pub redirected : Option Redirection → Represented → Represented
redirected None form = form
redirected (Some r) form = redirected_by r form

-- references to what is declared go to the name of this number
abbrev pub redirection_of : Declared → Option ℕ → Option Redirection
redirection_of declared None = None
redirection_of declared (Some to) = Some (record { kind = declared.kind; from = declared.name; to = to })

-- of representations, by a table with the names of originals
module _ (t : NameTable) (reps : List Representation) where
  abbrev pub redirection_to : Option Declared → ℕ → Option Redirection
  redirection_to None original = None
  redirection_to (Some declared) original = redirection_of declared (version_at t reps original)

  abbrev pub redirection_if : ℕ → Option ℕ → Option Redirection
  redirection_if place None = None
  redirection_if place (Some original) = redirection_to (declared_at reps place) original

-- an element stands in another
abbrev pub is_in : ℕ → Option Representation → Bool
is_in place None = false
is_in place (Some rep) = list_any (λ member. member == place) rep.members

-- the place of what redefines a component: an element that has an original, else what it stands in
abbrev pub version_or : ℕ → Option ℕ → Option ℕ → Option ℕ
version_or place None above = above
version_or place (Some original) above = Some place

-- of representations, and the original of each
module _ (reps : List Representation) (originals : List (Option ℕ)) where
  -- the place of the redefining component in which an element stands, by the last of the first so many elements in which it stands; an
  -- element stands behind that in which it stands, and in no other
  abbrev pub version_above : ℕ → ℕ → Option ℕ
  version_above zero place = None
  version_above (suc n) place = if is_in place (slice_get reps n) then version_or n (original_at originals n) (version_above n n) else version_above n place

  -- the place of the redefining component that an element is or stands in, at whatever depth
  abbrev pub version_around : ℕ → Option ℕ
  version_around place = version_or place (original_at originals place) (version_above place place)

-- of representations, and the original of each, by a table with the names of originals
module _ (t : NameTable) (reps : List Representation) (originals : List (Option ℕ)) where
  -- Structures 4.2.2: in a redefining component references to its name mean its original
  abbrev pub own_redirection : ℕ → Option Redirection
  own_redirection place = redirection_if t reps place (original_at originals place)

  -- the redirection in the element at a place
  abbrev pub redirection_at : ℕ → Option Redirection
  redirection_at place = option_and_then own_redirection (version_around reps originals place)
