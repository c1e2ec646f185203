-- Constraints on the schema components of identity constraints: Structures 3.11.6.
use Rattle.std.specs.Prelude.{◌≡◌, ◌≢◌, ◌⊎◌, ℕ, List, Some, Any, length, slice_get}
use Rattle.xs_codes.specs.declared.code.Code.{Code}
use Rattle.xs_codes.specs.declared.code.Code.TheVariants.{CSelectorXpath, CFieldsXpaths, CPropsCorrect2}
use Rattle.xs_codes.specs.declared.fault.Fault.{Fault}
use Rattle.xs_components.specs.Tables.{Tables}
use Rattle.xs_components.specs.declared.common.Place.{Place}
use Rattle.xs_components.specs.declared.constraint.Constraint.{Constraint}
use Rattle.xs_components.specs.declared.constraint.ConstraintKind.TheVariants.{Keyref}
use Rattle.xs_components.specs.declared.constraint.PathText.{PathText}
use Rattle.xpath_subset.specs.Grammar.{WrittenPaths, IsSelector, IsField}
use Rattle.xpath_subset.specs.declared.path.Path.{Path}
use Rattle.xpath_subset.specs.Reads.{IsReadAs}

abbrev pub fault_at : Place → Code → Fault
fault_at at code = record { phase = 10; document = at.document; item = at.item; code = code }

-- a path is outside the grammar, or a prefix in it is not bound: it is read as no paths
abbrev pub IsUnreadable : (List ℕ → WrittenPaths → Type 0) → Code → PathText → Fault → Type 0
IsUnreadable IsWritten code path fault = ((paths : List Path) → IsReadAs IsWritten path paths → ⊥) × (fault ≡ fault_at path.at code)

-- c-selector-xpath (Structures 3.11.6, Selector Value OK): the selector is none
abbrev pub IsSelectorFault : Constraint → Fault → Type 0
IsSelectorFault c fault = IsUnreadable IsSelector CSelectorXpath c.selector fault

-- c-fields-xpaths (Structures 3.11.6, Fields Value OK): a field is none
abbrev pub IsFieldFault : Constraint → Fault → Type 0
IsFieldFault c fault = Any (λ path. IsUnreadable IsField CFieldsXpaths path fault) c.fields

-- c-props-correct.2 (Structures 3.11.6): a keyref has another number of fields than the key that it refers to
pub record IsCountFault (t : Tables) (c : Constraint) (fault : Fault) : Type 0 where
  pub key : ℕ
  pub refers : c.kind ≡ Keyref key
  pub referred : Constraint
  pub is : slice_get t.constraints.parts key ≡ Some referred
  pub differ : length c.fields ≢ length referred.fields
  pub fault_is : fault ≡ fault_at c.at CPropsCorrect2

-- of one constraint
abbrev pub IsFaultOf : Tables → Constraint → Fault → Type 0
IsFaultOf t c fault = IsSelectorFault c fault ⊎ (IsFieldFault c fault ⊎ IsCountFault t c fault)

-- of some identity constraint
abbrev pub IsIdentityFault : Tables → Fault → Type 0
IsIdentityFault t fault = Any (λ c. IsFaultOf t c fault) t.constraints.parts
