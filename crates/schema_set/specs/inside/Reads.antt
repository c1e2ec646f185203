-- What is kept of documents that were read.
use Rattle.std.specs.Prelude.{ℕ, ◌+◌, ◌-◌, List, [], ◌∷◌, Option, slice_get}
use Rattle.std.specs.Option.{option_and_then, option_to_list}
use Rattle.xs_codes.specs.declared.fault.Fault.{Fault}
use Rattle.schema_shape.specs.Shaped.{shape_fault}
use Rattle.schema_set.specs.declared.documents.SetDocument.{SetDocument}
use Rattle.schema_set.specs.declared.inputs.SchemaInput.{SchemaInput}

-- the faults of documents that have numbers from this one on
abbrev pub faults_from : ℕ → List SchemaInput → List (Option Fault)
faults_from number [] = []
faults_from number (input ∷ inputs) = shape_fault number input.tree.forest ∷ faults_from (number + 1) inputs

-- the fault of the document of this number
abbrev pub fault_in : List (Option Fault) → ℕ → Option Fault
fault_in faults number = option_and_then (λ fault. fault) (slice_get faults (number - 1))

abbrev pub document_faults : List (Option Fault) → SetDocument → List Fault
document_faults faults d = option_to_list (fault_in faults d.number)
