-- Value constraints of element declarations (Structures 3.3.6).
use Rattle.std.specs.Prelude.{◌≡◌, ◌⊎◌, ℕ, false, Some, slice_get}
use Rattle.xs_codes.specs.declared.code.Code.{Code}
use Rattle.xs_codes.specs.declared.code.Code.TheVariants as codes
use Rattle.xs_codes.specs.declared.fault.Fault.{Fault}
use Rattle.xs_components.specs.Tables.{Tables}
use Rattle.xs_components.specs.declared.common.TypeId.{TypeId}
use Rattle.xs_components.specs.declared.common.ValueConstraint.{ValueConstraint}
use Rattle.xs_components.specs.declared.element.ElementDecl.{ElementDecl}
use Rattle.component_tables.specs.ContentTypes.{content_of}
use Rattle.component_tables.specs.declared.content_types.ContentType.{ContentType}
use Rattle.component_tables.specs.declared.content_types.ContentType.TheVariants.{SimpleType, Empty, SimpleContent, ElementOnly, Mixed}
use Rattle.component_tables.specs.Types.{type_of}
use Rattle.derive_faults.specs.Emptiable.{has_emptiable_model}
use Rattle.derive_faults.specs.Ids.{IsIdType, HasIdContent}
use Rattle.derive_faults.specs.Texts.{IsRefused, IsCoded}

module _ (t : Tables) where
  -- e-props-correct.2 (Structures 3.3.6): the text of the constraint is not valid by the simple type, or by that of the simple content.
  abbrev pub IsNotValid : TypeId → ValueConstraint → Code → Type 0
  IsNotValid of constraint code = IsRefused t codes.EPropsCorrect2 of constraint code

  -- cos-valid-default.2.1 (Structures 3.3.6): the content is neither simple nor mixed.
  abbrev pub IsWithoutText : Code → Type 0
  IsWithoutText code = code ≡ codes.CosValidDefault2_1

  -- cos-valid-default.2.2.2 (Structures 3.3.6): the content is mixed, and its model is not emptiable.
  abbrev pub IsFilled : TypeId → Code → Type 0
  IsFilled of code = (has_emptiable_model t of ≡ false) × (code ≡ codes.CosValidDefault2_2_2)

  -- e-props-correct.5 (Structures 3.3.6): the type or that of its content is or derives from ID.
  abbrev pub IsOnId : TypeId → Code → Type 0
  IsOnId of code = (IsIdType t of ⊎ HasIdContent t of) × (code ≡ codes.EPropsCorrect5)

  -- by what the type contains
  abbrev pub BreaksContent : TypeId → ValueConstraint → ContentType → Code → Type 0
  BreaksContent of constraint SimpleType code = IsNotValid of constraint code
  BreaksContent of constraint SimpleContent code = IsNotValid of constraint code
  BreaksContent of constraint Empty code = IsWithoutText code
  BreaksContent of constraint ElementOnly code = IsWithoutText code
  BreaksContent of constraint Mixed code = IsFilled of code

  -- a constraint on an element, by its type
  abbrev pub BreaksValue : TypeId → ValueConstraint → Code → Type 0
  BreaksValue of constraint code = BreaksContent of constraint (content_of t of) code ⊎ IsOnId of code

  -- an element declaration, by its type
  abbrev pub BreaksDecl : TypeId → ElementDecl → Code → Type 0
  BreaksDecl of part code = (constraint : ValueConstraint) × (part.value ≡ Some constraint) × BreaksValue of constraint code

  -- a fault of the element declaration of this number
  abbrev pub IsElementAt : ℕ → Fault → Type 0
  IsElementAt n fault = (part : ElementDecl) × (slice_get t.elements.parts n ≡ Some part) × IsCoded part.at (BreaksDecl (type_of t n) part) fault
