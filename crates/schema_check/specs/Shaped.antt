-- What stands where among representations, as schema documents of the right shape have it (Structures, appendix A).
use Rattle.std.specs.Prelude.{◌≡◌, ℕ, Bool, true, false, List, Option, None, Some, slice_get}
use Rattle.std.specs.List.{list_any}
use Rattle.representations.specs.declared.parts.Represented.{Represented}
use Rattle.representations.specs.declared.parts.Represented.TheVariants as forms
use Rattle.representations.specs.declared.parts.Representation.{Representation}
use Rattle.representations.specs.Members.{is_type_at}
use Rattle.build_types.specs.SimpleTypes.{first_member}

abbrev pub is_simple_type : Represented → Bool
is_simple_type (forms.SimpleType name finals) = true
is_simple_type _ = false

abbrev pub is_complex_type : Represented → Bool
is_complex_type (forms.ComplexType head) = true
is_complex_type _ = false

-- a restriction, a list or a union
abbrev pub is_variety : Represented → Bool
is_variety (forms.Restriction base) = true
is_variety (forms.ItemType of) = true
is_variety (forms.Union members) = true
is_variety _ = false

-- a restriction or a list that names no type
abbrev pub names_no_type : Represented → Bool
names_no_type (forms.Restriction None) = true
names_no_type (forms.ItemType None) = true
names_no_type _ = false

-- simpleContent or complexContent
abbrev pub is_content : Represented → Bool
is_content forms.SimpleContent = true
is_content (forms.ComplexContent mixed) = true
is_content _ = false

-- a restriction or an extension in one of these
abbrev pub is_derivation : Represented → Bool
is_derivation (forms.Derivation by_extension base) = true
is_derivation _ = false

-- an element, or what no component is built from, as the schema element
abbrev pub may_hold_complex : Represented → Bool
may_hold_complex (forms.Element element) = true
may_hold_complex forms.Nothing = true
may_hold_complex _ = false

-- what is there is of a kind
abbrev pub is_kind_in : (Represented → Bool) → Option Representation → Bool
is_kind_in is_kind None = false
is_kind_in is_kind (Some rep) = is_kind rep.form

abbrev pub is_kind_at : (Represented → Bool) → List Representation → ℕ → Bool
is_kind_at is_kind reps place = is_kind_in is_kind (slice_get reps place)

-- Structures 3.14.2: a simple type is made by a restriction, a list or a union. src-simple-type.2, src-simple-type.3 (3.14.3): a
-- restriction or a list that names no type has one in it. 3.4.2: simpleContent and complexContent have a restriction or an extension.
-- Complex types stand in elements and at the top alone.
pub record IsShaped (reps : List Representation) (members : List ℕ) (form : Represented) : Type 0 where
  pub made : is_simple_type form ≡ true → is_kind_in is_variety (first_member reps members) ≡ true
  pub given : names_no_type form ≡ true → list_any (is_type_at reps) members ≡ true
  pub derived : is_content form ≡ true → is_kind_in is_derivation (first_member reps members) ≡ true
  pub plain : may_hold_complex form ≡ false → list_any (is_kind_at is_complex_type reps) members ≡ false

-- each element is
abbrev pub AreShaped : List Representation → Type 0
AreShaped reps = (place : ℕ) (rep : Representation) → slice_get reps place ≡ Some rep → IsShaped reps rep.members rep.form
