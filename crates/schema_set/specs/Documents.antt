-- Schema documents as they come, the set that one of them leads to, and the faults of shape of that set.
use Rattle.std.specs.Prelude.{◌≡◌, ℕ, ◌-◌, List, Option, Some, map, slice_get}
use Rattle.std.specs.Option.{option_and_then}
use Rattle.xs_codes.specs.declared.fault.Fault.{Fault}
use Rattle.schema_shape.specs.Shaped.{declared, shape_fault}
use Rattle.schema_set.specs.declared.documents.Available.{Available}
use Rattle.schema_set.specs.declared.documents.SetDocument.{SetDocument}
use Rattle.schema_set.specs.EffectiveSet.{InSet, IsEffectiveSet}
use Rattle.schema_set.specs.Order.{IsInOrder}
use Rattle.schema_set.specs.declared.inputs.SchemaInput.{SchemaInput}
use Rattle.schema_set.specs.inside.Reads.{faults_from}

-- a document with what its elements declare, whether or not they have faults
abbrev pub available_of : SchemaInput → Available
available_of input = record { shaped = declared input.tree.forest; locations = input.locations }

-- the documents that there are
abbrev pub available : List SchemaInput → List Available
available inputs = map available_of inputs

-- Structures 4.2: the documents of the set that the one of this place leads to, in order
abbrev pub IsSet : List SchemaInput → ℕ → List SetDocument → Type 0
IsSet inputs start set = IsEffectiveSet (available inputs) start set × IsInOrder (available inputs) set

-- of each document the first constraint on its shape that it breaks
abbrev pub shape_faults : List SchemaInput → List (Option Fault)
shape_faults inputs = faults_from 1 inputs

-- the same of the document of this number
abbrev pub shape_fault_at : List SchemaInput → ℕ → Option Fault
shape_fault_at inputs number = option_and_then (λ input. shape_fault number input.tree.forest) (slice_get inputs (number - 1))

-- The first constraint on its shape that a document of the set breaks: one to which the one of the place `start` leads by include, redefine and
-- import, also over documents that have faults themselves.
pub record IsShapeFault (inputs : List SchemaInput) (start : ℕ) (fault : Fault) : Type 0 where
  pub target : Option (List ℕ)
  pub inside : InSet (available inputs) start fault.document target
  pub first : shape_fault_at inputs fault.document ≡ Some fault
