-- What the text of an element comes to by its governing type (Structures 3.3.4, cvc-elt.5).
use Rattle.std.specs.Prelude.{◌≡◌, ℕ, Bool, true, false, not, ◌&&◌, List, Option, None, Some, Result, Ok, Err}
use Rattle.xs_codes.specs.declared.code.Code.{Code}
use Rattle.xs_components.specs.Tables.{Tables}
use Rattle.xs_components.specs.declared.common.TypeId.{TypeId}
use Rattle.xs_components.specs.declared.common.ValueConstraint.{ValueConstraint}
use Rattle.simple_values.specs.Same.{same}
use Rattle.simple_values.specs.declared.value.Value.{Value}
use Rattle.facets.specs.Trying.{Scope}
use Rattle.simple_types.specs.Trees.{type_tree}
use Rattle.simple_types.specs.SimpleTypes.{IsValueOf}
use Rattle.assess_records.specs.declared.shape.ElementShape.{ElementShape}
use Rattle.component_tables.specs.ContentTypes.{content_of}
use Rattle.component_tables.specs.declared.content_types.ContentType.{ContentType}
use Rattle.component_tables.specs.declared.content_types.ContentType.TheVariants.{SimpleType, Empty, SimpleContent, ElementOnly, Mixed}
use Rattle.elem_codes.specs.declared.outcome.TextOutcome.{TextOutcome}
use Rattle.elem_codes.specs.declared.outcome.TextOutcome.TheVariants.{NotRead, Invalid, Valid}
use Rattle.elem_codes.specs.Facts.{is_taken, has_elements}
use Rattle.elem_codes.specs.Used.{text_used, scope_used, fixed_value}

-- a type of elements whose text is read by a simple type
abbrev pub is_simple_content : ContentType → Bool
is_simple_content SimpleType = true
is_simple_content Empty = false
is_simple_content SimpleContent = true
is_simple_content ElementOnly = false
is_simple_content Mixed = false

-- the value is the one that the text of a constraint comes to; a text that is not valid is never the value
abbrev pub is_value : Value → Result Value Code → Bool
is_value value (Ok fixed) = same value fixed
is_value value (Err code) = false

module _ (t : Tables) (of : TypeId) where
  -- a value meets the fixed one, if there is one; this is read by the governing type
  abbrev pub IsMet : Option ValueConstraint → Value → Bool → Type 0
  IsMet None value met = met ≡ true
  IsMet (Some constraint) value met =
      (fixed : Result Value Code) × IsValueOf (type_tree t of) constraint.scope constraint.text fixed × (met ≡ is_value value fixed)

  abbrev pub IsOutcome : Option ValueConstraint → Result Value Code → TextOutcome → Type 0
  IsOutcome fixed (Err code) outcome = outcome ≡ Invalid code
  IsOutcome fixed (Ok value) outcome = (met : Bool) × IsMet fixed value met × (outcome ≡ Valid value met)

  -- what a text comes to by the type (Structures 3.14.4)
  abbrev pub IsRead : Option ValueConstraint → Scope → List ℕ → TextOutcome → Type 0
  IsRead fixed scope text outcome = (read : Result Value Code) × IsValueOf (type_tree t of) scope text read × IsOutcome fixed read outcome

-- The text is read where the governing type is simple or has simple content, the element is not nil and has no child elements.
abbrev pub is_read : ContentType → Bool → ElementShape → Bool
is_read content nil shape = is_simple_content content && (not nil && not (has_elements shape))

abbrev pub IsReadIf : Bool → Tables → TypeId → Bool → Option ValueConstraint → ElementShape → TextOutcome → Type 0
IsReadIf false t of taken constraint shape outcome = outcome ≡ NotRead
IsReadIf true t of taken constraint shape outcome =
    IsRead t of (fixed_value taken constraint) (scope_used taken constraint shape) (text_used taken constraint shape) outcome

-- what the text of an element comes to by the type that governs it, if one does
abbrev pub IsTextOutcome : Tables → Option TypeId → Bool → Option ValueConstraint → ElementShape → TextOutcome → Type 0
IsTextOutcome t None nil constraint shape outcome = outcome ≡ NotRead
IsTextOutcome t (Some of) nil constraint shape outcome =
    IsReadIf (is_read (content_of t of) nil shape) t of (is_taken nil constraint shape) constraint shape outcome
