-- Constraints on the attribute uses and wildcards of complex types and attribute groups (Structures 3.4.6, 3.6.6).
use Rattle.std.specs.Prelude.{◌≡◌, ◌⊎◌, ◌↔◌, ℕ, ◌<◌, Bool, true, false, List, Some, Ok, Err, length, slice_get, slice_index_or}
use Rattle.xs_codes.specs.declared.builtin.Builtin.TheVariants.{Id}
use Rattle.xs_codes.specs.declared.code.Code.{Code}
use Rattle.xs_codes.specs.declared.code.Code.TheVariants.{CtPropsCorrect4, CtPropsCorrect5, AgPropsCorrect2, AgPropsCorrect3}
use Rattle.xs_codes.specs.declared.fault.Fault.{Fault}
use Rattle.xs_components.specs.Tables.{Tables}
use Rattle.xs_components.specs.declared.attribute.AttributeDecl.{AttributeDecl}
use Rattle.xs_components.specs.declared.attr_group.AttrGroupDef.{AttrGroupDef}
use Rattle.xs_components.specs.declared.common.TypeId.TheVariants.{Builtin, Complex}
use Rattle.xs_components.specs.declared.complex.ComplexType.{ComplexType}
use Rattle.attr_uses.specs.Uses.{AttrUses, uses_of, group_uses}
use Rattle.attr_uses.specs.Tables.{HasTwoOfOneName, HasTwoIds}
use Rattle.type_derivation.specs.Chains.{Derives}
use Rattle.derive_faults.specs.Finals.{no_methods}
use Rattle.derive_faults.specs.TypeFaults.{type_fault, IsFaultAt}

-- the type of the attribute declaration of this number is or derives from ID
abbrev pub IsOfId : Tables → ℕ → Type 0
IsOfId t n = (decl : AttributeDecl) × (slice_get t.attributes.parts n ≡ Some decl) × Derives t no_methods decl.of (Builtin Id)

-- the marks say so of each attribute declaration
abbrev pub AreIdMarks : Tables → List Bool → Type 0
AreIdMarks t ids = (n : ℕ) → (slice_index_or ids n false ≡ true) ↔ IsOfId t n

-- the marks say which attribute declarations are of a type that is or derives from ID
module _ (t : Tables) (ids : List Bool) where
  -- Two different uses have one name; the uses of two names are of types of IDs. Where no name has two uses, these are all uses.
  abbrev pub BreaksProps : Code → Code → AttrUses → Code → Type 0
  BreaksProps of_one_name of_ids own code = (HasTwoOfOneName t own.uses × (code ≡ of_one_name)) ⊎ (HasTwoIds t ids own.uses × (code ≡ of_ids))

  -- ct-props-correct.4 and ct-props-correct.5 (Structures 3.4.6), of the complex type of a number
  abbrev pub BreaksType : ℕ → ComplexType → Code → Type 0
  BreaksType n part code = (own : AttrUses) × (uses_of t (Complex n) ≡ Ok own) × BreaksProps CtPropsCorrect4 CtPropsCorrect5 own code

  -- ag-props-correct.2 and ag-props-correct.3 (Structures 3.6.6), of the attribute group of a number
  abbrev pub BreaksGroup : ℕ → Code → Type 0
  BreaksGroup n code = (own : AttrUses) × (group_uses t n ≡ Ok own) × BreaksProps AgPropsCorrect2 AgPropsCorrect3 own code

  abbrev pub IsGroupFault : ℕ → Fault → Type 0
  IsGroupFault n fault = (part : AttrGroupDef) × (code : Code) × (slice_get t.attr_groups.parts n ≡ Some part) × BreaksGroup n code × (fault ≡ type_fault 6 part.at code)

  -- src-ct.4 and src-ct.5 (Structures 3.4.3): the intersection of the wildcards of a complex type, or its union with that of the
  -- base, has no form; also of an attribute group or a base that the type is made of
  abbrev pub IsTypeAt : ℕ → Fault → Type 0
  IsTypeAt n fault = (n < length t.complexes.parts) × ((uses_of t (Complex n) ≡ Err fault) ⊎ IsFaultAt 6 t BreaksType n fault)

  -- src-attribute_group.2 (Structures 3.6.3): the intersection of the wildcards of an attribute group has no form
  abbrev pub IsGroupAt : ℕ → Fault → Type 0
  IsGroupAt n fault = (n < length t.attr_groups.parts) × ((group_uses t n ≡ Err fault) ⊎ IsGroupFault n fault)

  -- a fault of some complex type or attribute group in phase 6, of attributes and value constraints
  abbrev pub IsAttrFault : Fault → Type 0
  IsAttrFault fault = ((n : ℕ) × IsTypeAt n fault) ⊎ ((n : ℕ) × IsGroupAt n fault)

-- The complex type of a number has attribute uses, no two of which have one name, and a wildcard where it has one (Structures 3.4.1).
pub record HasUses (t : Tables) (n : ℕ) : Type 0 where
  pub own : AttrUses
  pub are : uses_of t (Complex n) ≡ Ok own
  pub once : HasTwoOfOneName t own.uses → ⊥
