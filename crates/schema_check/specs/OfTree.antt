-- Documents of the right shape.
use Rattle.std.specs.Prelude.{◌≡◌, ℕ, Ok}
use Rattle.tree_rows.specs.Forest.{Document}
use Rattle.tree_rows.specs.Whole.{IsTree}
use Rattle.schema_shape.specs.Shaped.{shaped}
use Rattle.schema_shape.specs.declared.forms.ShapedSchema.{ShapedSchema}
use Rattle.schema_set.specs.declared.documents.SetDocument.{SetDocument}

-- these are what a document's tree declares, in which no constraint on shape is broken; faults name the document by a number
abbrev pub IsDeclared : ShapedSchema → Type 0
IsDeclared schema = (number : ℕ) × (tree : Document) × IsTree tree × (shaped number tree.forest ≡ Ok schema)

abbrev pub IsOfTree : SetDocument → Type 0
IsOfTree d = IsDeclared d.shaped.now
