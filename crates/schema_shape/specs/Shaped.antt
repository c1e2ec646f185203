-- A schema document by its tree: what it declares, or its first broken constraint.
use Rattle.std.specs.Prelude.{ℕ, List, Option, Some, None, Result, Ok, Err}
use Rattle.tag_names.specs.Scopes.{first_scope}
use Rattle.tree_rows.specs.Forest.{Forest}
use Rattle.xs_codes.specs.declared.fault.Fault.{Fault}
use Rattle.schema_values.specs.declared.grammar_kinds.Kind.TheVariants as k
use Rattle.schema_faults.specs.Constructs.{Construct, constructs}
use Rattle.schema_faults.specs.Faults.{least_fault}
use Rattle.schema_shape.specs.Shapes.{shapes}
use Rattle.schema_faults.specs.declared.broken.Broken.{Broken}
use Rattle.schema_shape.specs.declared.forms.ShapedSchema.{ShapedSchema}

-- the elements of a document; outside of its root no element has bindings
abbrev pub constructs_of : Forest → List Construct
constructs_of tree = constructs k.Document 0 first_scope tree

-- what the elements of a document declare, whether or not they have faults
abbrev pub declared : Forest → ShapedSchema
declared tree = record { shapes = shapes (constructs_of tree) }

-- a broken constraint on the shape of the document of this number
abbrev pub fault_at : ℕ → Option Broken → Option Fault
fault_at document None = None
fault_at document (Some broken) = Some (record { phase = 1; document = document; item = broken.item; code = broken.code })

-- the first constraint on its shape that it breaks: that at the least element
abbrev pub shape_fault : ℕ → Forest → Option Fault
shape_fault document tree = fault_at document (least_fault (constructs_of tree))

abbrev pub answer : ShapedSchema → Option Fault → Result ShapedSchema Fault
answer schema None = Ok schema
answer schema (Some fault) = Err fault

-- what the document of this number declares, or its fault
abbrev pub shaped : ℕ → Forest → Result ShapedSchema Fault
shaped document tree = answer (declared tree) (shape_fault document tree)
