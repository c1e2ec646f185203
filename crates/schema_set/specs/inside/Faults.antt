-- The faults of documents of a set, as a list.
use Rattle.std.specs.Prelude.{ℕ, List, map}
use Rattle.std.specs.List.{flat_map}
use Rattle.xs_codes.specs.declared.code.Code.{Code}
use Rattle.xs_codes.specs.declared.fault.Fault.{Fault}
use Rattle.schema_shape.specs.declared.forms.Shape.{Shape}
use Rattle.schema_set.specs.declared.documents.Available.{Available}
use Rattle.schema_set.specs.declared.documents.SetDocument.{SetDocument}
use Rattle.schema_set.specs.Composition.{broken_codes}

abbrev pub fault_at : ℕ → ℕ → Code → Fault
fault_at document item code = record { phase = 2; document = document; item = item; code = code }

abbrev pub shape_faults : List Available → SetDocument → Shape → List Fault
shape_faults available d shape = map (fault_at d.number shape.item) (broken_codes available d.target shape.form)

abbrev pub document_faults : List Available → SetDocument → List Fault
document_faults available d = flat_map (shape_faults available d) d.shaped.now.shapes

abbrev pub set_faults : List Available → List SetDocument → List Fault
set_faults available documents = flat_map (document_faults available) documents
