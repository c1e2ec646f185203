-- The first of what breaks a constraint, by the order of the codes.
use Rattle.std.specs.Prelude.{◌≡◌, ◌≤◌, ℕ, List, Option, None, Some, Contains}
use Rattle.xs_codes.specs.declared.code.Code.{Code}
use Rattle.xs_codes.specs.declared.fault.Fault.{Fault}
use Rattle.xs_codes.specs.Codes.{order_of}
use Rattle.redefine_originals.specs.declared.versions.Redefinable.{Redefinable}
use Rattle.schema_set.specs.declared.documents.Available.{Available}
use Rattle.schema_set.specs.declared.documents.SetDocument.{SetDocument}
use Rattle.redefine_originals.specs.Versions.{declared_as, Child, redefining}
use Rattle.redefine_faults.specs.Redefinitions.{BreaksHere}

-- one of the codes, before which none of them stands; or there are none
abbrev pub IsFirstCode : (Code → Type 0) → Option Code → Type 0
IsFirstCode Is None = (c : Code) → Is c → ⊥
IsFirstCode Is (Some c) = Is c × ((other : Code) → Is other → order_of c ≤ order_of other)

-- the codes that what stands in a redefine of a document of the set breaks
pub record IsBroken (available : List Available) (d : SetDocument) (child : Child) (c : Code) : Type 0 where
  pub of : Redefinable
  pub name : List ℕ
  pub declares : declared_as child.shape.form ≡ Some (of, name)
  pub breaks : BreaksHere available d.number d.shaped.now.shapes d.target of name child c

abbrev pub fault_at : ℕ → ℕ → Code → Fault
fault_at document item c = record { phase = 2; document = document; item = item; code = c }

-- the faults of what stands in a redefine, of what stands in those of a document, of a set
pub record IsChildFault (available : List Available) (d : SetDocument) (child : Child) (f : Fault) : Type 0 where
  pub c : Code
  pub broken : IsBroken available d child c
  pub is : fault_at d.number child.shape.item c ≡ f

abbrev pub IsOneOf : {X : Type 0} → (X → Fault → Type 0) → List X → Fault → Type 0
IsOneOf {X} Is xs f = (x : X) × Contains xs x × Is x f

abbrev pub IsDocumentFault : List Available → SetDocument → Fault → Type 0
IsDocumentFault available d f = IsOneOf (IsChildFault available d) (redefining d.shaped.now.shapes) f

abbrev pub IsSetFault : List Available → List SetDocument → Fault → Type 0
IsSetFault available set f = IsOneOf (IsDocumentFault available) set f
