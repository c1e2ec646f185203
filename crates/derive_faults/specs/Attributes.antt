-- Value constraints of attribute declarations and of attribute uses (Structures 3.2.6, 3.5.6).
use Rattle.std.specs.Prelude.{◌≡◌, ◌⊎◌, ℕ, List, Some, slice_get}
use Rattle.xs_codes.specs.declared.code.Code.{Code}
use Rattle.xs_codes.specs.declared.code.Code.TheVariants as codes
use Rattle.xs_codes.specs.declared.fault.Fault.{Fault}
use Rattle.xs_components.specs.Tables.{Tables}
use Rattle.xs_components.specs.declared.attribute.AttributeDecl.{AttributeDecl}
use Rattle.xs_components.specs.declared.attribute.AttrUse.{AttrUse}
use Rattle.xs_components.specs.declared.attr_group.AttrGroupDef.{AttrGroupDef}
use Rattle.xs_components.specs.declared.common.TypeId.{TypeId}
use Rattle.xs_components.specs.declared.common.ValueConstraint.{ValueConstraint}
use Rattle.xs_components.specs.declared.complex.ComplexType.{ComplexType}
use Rattle.derive_faults.specs.Ids.{IsIdType}
use Rattle.derive_faults.specs.Texts.{IsRefused, IsCoded}
use Rattle.derive_faults.specs.Values.{LosesFixed}

module _ (t : Tables) where
  -- a-props-correct.2 (Structures 3.2.6): the text of the constraint is not valid by the type of the attribute.
  abbrev pub IsNotValid : TypeId → ValueConstraint → Code → Type 0
  IsNotValid of constraint code = IsRefused t codes.APropsCorrect2 of constraint code

  -- a-props-correct.3 (Structures 3.2.6): the type of the attribute is or derives from ID.
  abbrev pub IsOnId : TypeId → Code → Type 0
  IsOnId of code = IsIdType t of × (code ≡ codes.APropsCorrect3)

  -- au-props-correct.2 (Structures 3.5.6): the declaration fixes a value, which the constraint of the use does not keep.
  abbrev pub IsNotKept : AttributeDecl → ValueConstraint → Code → Type 0
  IsNotKept decl own code = LosesFixed t decl.of decl.of (Some own) decl.value × (code ≡ codes.AuPropsCorrect2)

  -- a constraint on an attribute, by its type
  abbrev pub BreaksValue : TypeId → ValueConstraint → Code → Type 0
  BreaksValue of constraint code = IsNotValid of constraint code ⊎ IsOnId of code

  -- an attribute declaration
  abbrev pub BreaksDecl : AttributeDecl → Code → Type 0
  BreaksDecl decl code = (constraint : ValueConstraint) × (decl.value ≡ Some constraint) × BreaksValue decl.of constraint code

  -- a constraint of a use of a declaration
  abbrev pub BreaksOwn : AttributeDecl → ValueConstraint → Code → Type 0
  BreaksOwn decl own code = BreaksValue decl.of own code ⊎ IsNotKept decl own code

  -- an attribute use
  abbrev pub BreaksUse : AttrUse → Code → Type 0
  BreaksUse part code =
      (own : ValueConstraint) × (decl : AttributeDecl) × (part.value ≡ Some own) × (slice_get t.attributes.parts part.attribute ≡ Some decl)
      × BreaksOwn decl own code

  -- a fault of the attribute declaration of this number
  abbrev pub IsDeclAt : ℕ → Fault → Type 0
  IsDeclAt n fault = (decl : AttributeDecl) × (slice_get t.attributes.parts n ≡ Some decl) × IsCoded decl.at (BreaksDecl decl) fault

  -- a fault of the use at this place among some
  abbrev pub IsUseAt : List AttrUse → ℕ → Fault → Type 0
  IsUseAt uses n fault = (part : AttrUse) × (slice_get uses n ≡ Some part) × IsCoded part.at (BreaksUse part) fault

  abbrev pub IsUseFault : List AttrUse → Fault → Type 0
  IsUseFault uses fault = (n : ℕ) × IsUseAt uses n fault

  -- a fault of a use that is written in the complex type of this number, or in the attribute group of this number
  abbrev pub IsTypeAt : ℕ → Fault → Type 0
  IsTypeAt n fault = (part : ComplexType) × (slice_get t.complexes.parts n ≡ Some part) × IsUseFault part.uses fault

  abbrev pub IsGroupAt : ℕ → Fault → Type 0
  IsGroupAt n fault = (part : AttrGroupDef) × (slice_get t.attr_groups.parts n ≡ Some part) × IsUseFault part.uses fault
