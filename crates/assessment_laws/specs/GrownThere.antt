-- What has names of a table, of the components that are looked for as elements are assessed, and of elements.
use Rattle.std.specs.Prelude.{◌≡◌, ℕ, ◌<◌, Some, IfSome, All, length, slice_get}
use Rattle.xs_names.specs.Names.{NameTable}
use Rattle.xs_components.specs.Tables.{Tables}
use Rattle.xs_components.specs.declared.complex.ComplexType.{ComplexType}
use Rattle.xs_components.specs.declared.simple.SimpleType.{SimpleType}
use Rattle.assess_records.specs.declared.shape.ElementShape.{ElementShape}
use Rattle.assess_records.specs.declared.shape.NamedText.{NamedText}
use Rattle.attr_assess.specs.Added.{AreNamed}
use Rattle.elem_governing.specs.View.{AreKnown}

-- types and attribute declarations have names of the table, where they have one
pub record ArePartsNamed (names : NameTable) (t : Tables) : Type 0 where
  pub simples : (n : ℕ) (part : SimpleType) → slice_get t.simples.parts n ≡ Some part → IfSome part.name (λ name. name < length names.names)
  pub complexes : (n : ℕ) (part : ComplexType) → slice_get t.complexes.parts n ≡ Some part → IfSome part.name (λ name. name < length names.names)
  pub attributes : AreNamed names t

-- the names of an element's attributes and the namespaces of its scope are numbers of the table
pub record IsShapeNamed (names : NameTable) (shape : ElementShape) : Type 0 where
  pub attrs : All (λ (a : NamedText). a.name < length names.names) shape.attrs
  pub scope : AreKnown names shape.scope
