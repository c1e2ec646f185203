-- The content of a restriction against that of its base (Structures 3.4.6, Derivation Valid (Restriction, Complex), 5), but for its
-- content model.
use Rattle.std.specs.Prelude.{◌≡◌, ◌⊎◌, ◌↔◌, ℕ, Bool, true, false, ◌&&◌, ◌||◌, not, ⊤, List, Option, None, Some, slice_get, if◌then◌else◌}
use Rattle.xs_codes.specs.declared.code.Code.{Code}
use Rattle.xs_codes.specs.declared.code.Code.TheVariants.{DerivationOkRestriction5_2, DerivationOkRestriction5_3, DerivationOkRestriction5_4_1}
use Rattle.xs_components.specs.Tables.{Tables}
use Rattle.xs_components.specs.declared.common.TypeId.{TypeId}
use Rattle.xs_components.specs.declared.common.TypeId.TheVariants.{AnyType, Builtin, Simple, Complex}
use Rattle.xs_components.specs.declared.complex.ComplexType.{ComplexType}
use Rattle.xs_components.specs.declared.complex.ContentForm.{ContentForm}
use Rattle.xs_components.specs.declared.complex.ContentForm.TheVariants as forms
use Rattle.xs_components.specs.declared.simple.FacetItem.{FacetItem}
use Rattle.component_tables.specs.ContentTypes.{content_of}
use Rattle.component_tables.specs.declared.content_types.ContentType.{ContentType}
use Rattle.component_tables.specs.declared.content_types.ContentType.TheVariants.{SimpleType, Empty, SimpleContent, ElementOnly, Mixed}
use Rattle.type_derivation.specs.Chains.{Derives, DerivesFromMember}
use Rattle.type_derivation.specs.Derives.{is_simple}
use Rattle.derive_faults.specs.Finals.{no_methods}
use Rattle.derive_faults.specs.TypeFaults.{when}
use Rattle.derive_faults.specs.Emptiable.{has_emptiable_model}
use Rattle.derive_restriction.specs.declared.texts.TextType.{TextType}
use Rattle.derive_restriction.specs.declared.texts.TextStep.{TextStep}
use Rattle.derive_restriction.specs.declared.texts.TextStep.TheVariants as steps

-- The simple type that the text of a type is of (Structures 3.4.2): a type of the schema, or a restriction of one, which has no name;
-- whether it is such a restriction stands behind. A simple type is that of its own text; an extension has that of its base; a restriction
-- of simple content restricts the simple type that stands in it, or else that of its base.
pub data HasTextType (t : Tables) : TypeId → TypeId → Bool → Type 0 where
  itself : (of : TypeId) → is_simple of ≡ true → HasTextType t of of false
  by_extension : (id : ℕ) (part : ComplexType) (of : TypeId) (made : Bool) → slice_get t.complexes.parts id ≡ Some part → part.by_extension ≡ true → HasTextType t part.base of made → HasTextType t (Complex id) of made
  by_own : (id : ℕ) (part : ComplexType) (step : List FacetItem) (own : TypeId) → slice_get t.complexes.parts id ≡ Some part → part.by_extension ≡ false → part.content ≡ forms.Simple (Some own) step
      → HasTextType t (Complex id) own true
  by_restriction : (id : ℕ) (part : ComplexType) (step : List FacetItem) (of : TypeId) (made : Bool) → slice_get t.complexes.parts id ≡ Some part → part.by_extension ≡ false → part.content ≡ forms.Simple None step
      → HasTextType t part.base of made → HasTextType t (Complex id) of true

-- the content is empty, or has a content model that is emptiable
abbrev pub may_be_empty : ContentType → Bool → Bool
may_be_empty SimpleType emptiable = false
may_be_empty Empty emptiable = true
may_be_empty SimpleContent emptiable = false
may_be_empty ElementOnly emptiable = emptiable
may_be_empty Mixed emptiable = emptiable

abbrev pub is_mixed : ContentType → Bool
is_mixed SimpleType = false
is_mixed Empty = false
is_mixed SimpleContent = false
is_mixed ElementOnly = false
is_mixed Mixed = true

-- a simple type derives from another, or from a restriction of it that has no name: then from a member of it, where it is a union
abbrev pub DerivesFromText : Tables → TypeId → TypeId → Bool → Type 0
DerivesFromText t own of false = Derives t no_methods own of
DerivesFromText t own of true = DerivesFromMember t no_methods own of

-- the simple type that stands in a restriction, if one does, derives from that of the text of the base (Structures 3.14.6)
abbrev pub IsTextDerived : Tables → Option TypeId → TypeId → Type 0
IsTextDerived t None base = ⊤
IsTextDerived t (Some own) base = (of : TypeId) × (made : Bool) × HasTextType t base of made × DerivesFromText t own of made

module _ (t : Tables) (base : TypeId) where
  -- derivation-ok-restriction.5.2: simple content whose type does not derive from that of the base's simple content
  abbrev pub IsOtherText : ContentType → Option TypeId → Type 0
  IsOtherText SimpleType own = ⊥
  IsOtherText Empty own = ⊥
  IsOtherText SimpleContent own = IsTextDerived t own base → ⊥
  IsOtherText ElementOnly own = ⊥
  IsOtherText Mixed own = ⊥

  -- derivation-ok-restriction.5.2: simple content over mixed content that is not emptiable
  abbrev pub IsOverFilled : ContentType → Type 0
  IsOverFilled SimpleType = ⊥
  IsOverFilled Empty = ⊥
  IsOverFilled SimpleContent = ⊥
  IsOverFilled ElementOnly = ⊥
  IsOverFilled Mixed = has_emptiable_model t base ≡ false

  -- derivation-ok-restriction.5.3: empty content over content that is neither empty nor emptiable
  -- derivation-ok-restriction.5.4.1: mixed content over content that is not mixed
  abbrev pub BreaksModel : ContentType → Option ℕ → Bool → Code → Type 0
  BreaksModel content None mixed code = (may_be_empty content (has_emptiable_model t base) ≡ false) × (code ≡ DerivationOkRestriction5_3)
  BreaksModel content (Some particle) mixed code = ((mixed && not (is_mixed content)) ≡ true) × (code ≡ DerivationOkRestriction5_4_1)

  abbrev pub BreaksSimple : ContentType → Option TypeId → Code → Type 0
  BreaksSimple content own code = (IsOtherText content own ⊎ IsOverFilled content) × (code ≡ DerivationOkRestriction5_2)

  abbrev pub BreaksForm : ContentType → ContentForm → Code → Type 0
  BreaksForm content (forms.Simple own step) code = BreaksSimple content own code
  BreaksForm content (forms.Complex effective mixed) code = BreaksModel content effective mixed code

-- the content of a restriction against that of its base
abbrev pub BreaksContent : Tables → ComplexType → Code → Type 0
BreaksContent t part code = BreaksForm t part.base (content_of t part.base) part.content code

-- ---- for proofs

-- the code of a content model against content, by whether this has an emptiable model, and whether there is a model
abbrev pub model_code : ContentType → Bool → Bool → Bool → Option Code
model_code content emptiable true mixed = when (mixed && not (is_mixed content)) DerivationOkRestriction5_4_1
model_code content emptiable false mixed = when (not (may_be_empty content emptiable)) DerivationOkRestriction5_3

abbrev pub is_other : ContentType → Bool → Bool → Bool
is_other SimpleType derived emptiable = false
is_other Empty derived emptiable = false
is_other SimpleContent derived emptiable = not derived
is_other ElementOnly derived emptiable = false
is_other Mixed derived emptiable = not emptiable

-- what says of which simple type a text is: that type, or the base of a complex type, of whose text it is or restricts it; or there is none
abbrev pub restricted_content : TypeId → ContentForm → TextStep
restricted_content base (forms.Simple (Some own) step) = steps.Found record { of = own; is_restricted = true }
restricted_content base (forms.Simple None step) = steps.Up base true
restricted_content base (forms.Complex effective mixed) = steps.Nothing

abbrev pub complex_step : ComplexType → TextStep
complex_step part = if part.by_extension then steps.Up part.base false else restricted_content part.base part.content

abbrev pub complex_step_in : Option ComplexType → TextStep
complex_step_in None = steps.Nothing
complex_step_in (Some part) = complex_step part

abbrev pub text_step : Tables → TypeId → TextStep
text_step t AnyType = steps.Nothing
text_step t (Builtin kind) = steps.Found record { of = Builtin kind; is_restricted = false }
text_step t (Simple id) = steps.Found record { of = Simple id; is_restricted = false }
text_step t (Complex id) = complex_step_in (slice_get t.complexes.parts id)

-- the same type, restricted or not
abbrev pub restricted_if : Bool → TextType → TextType
restricted_if is_restricted text = record { of = text.of; is_restricted = is_restricted || text.is_restricted }

-- the text of a type is of this simple type
abbrev pub IsTextType : Tables → TypeId → Option TextType → Type 0
IsTextType t of found = (x : TypeId) (made : Bool) → (found ≡ Some record { of = x; is_restricted = made }) ↔ HasTextType t of x made
