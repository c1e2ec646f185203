-- What the elements of a document are assessed by.
use Rattle.std.specs.Prelude.{◌<◌, All, length, IfSome}
use Rattle.xs_names.specs.Names.{NameTable}
use Rattle.xs_components.specs.Tables.{Tables}
use Rattle.component_references.specs.Heights.{IsType}
use Rattle.assess_records.specs.declared.shape.ElementShape.{ElementShape}
use Rattle.elem_governing.specs.View.{AreKnown}
use Rattle.elem_governing.specs.declared.pairs.Governing.{Governing}

-- the names of an element's attributes and the namespaces of its scope are numbers of the table, and the type that governs it is there
pub record IsWithin (names : NameTable) (t : Tables) (g : Governing) (shape : ElementShape) : Type 0 where
  pub attrs : All (λ a. a.name < length names.names) shape.attrs
  pub scope : AreKnown names shape.scope
  pub of : IfSome g.of (IsType t)
