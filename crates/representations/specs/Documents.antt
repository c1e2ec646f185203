-- The table of names with those of a document, in document order.
use Rattle.std.specs.Prelude.{◌≡◌, ℕ, List, [], ◌∷◌, Option}
use Rattle.tree_rows.specs.declared.row.Binding.{Binding}
use Rattle.xs_names.specs.Names.{NameTable, with_space}
use Rattle.schema_shape.specs.declared.forms.Shape.{Shape}
use Rattle.representations.specs.declared.naming.Naming.{Naming}
use Rattle.representations.specs.Naming.{with_space_of, naming_of}
use Rattle.representations.specs.Forms.{form_table}

abbrev pub bindings_table : List Binding → NameTable → NameTable
bindings_table [] t = t
bindings_table (binding ∷ bindings) t = bindings_table bindings (with_space t binding.namespace)

abbrev pub shape_table : Naming → Shape → NameTable → NameTable
shape_table naming shape t = form_table naming shape.form (bindings_table shape.bindings t)

abbrev pub shapes_table : Naming → List Shape → NameTable → NameTable
shapes_table naming [] t = t
shapes_table naming (shape ∷ shapes) t = shapes_table naming shapes (shape_table naming shape t)

-- the target namespace, then the namespaces of bindings and the names of each shape
abbrev pub document_table : Option (List ℕ) → List Shape → NameTable → NameTable
document_table target shapes t = shapes_table (naming_of target shapes) shapes (with_space_of t target)
