-- What the constraints on derivation ask of a schema set.
use Rattle.std.specs.Prelude.{◌≡◌, ℕ, List, Bool, Some, IfSome, slice_get}
use Rattle.xs_components.specs.declared.element.ElementDecl.{ElementDecl}
use Rattle.component_references.specs.Heights.{IsType}
use Rattle.schema_models.specs.AllLimits.{AreContentsThere}
use Rattle.attr_uses.specs.Tables.{AreTablesOf}
use Rattle.derive_restriction.specs.Given.{AreGiven}
use Rattle.component_tables.specs.ContentTypes.{AreContentsOf}
use Rattle.component_tables.specs.Types.{AreDeclarationsOf}
use Rattle.derive_restriction.specs.declared.fault_set.DerivedSet.{DerivedSet}

-- What the comparison of restrictions with their bases asks is so, the types of elements and the particles of contents are there, and
-- what is known of the components is so.
pub record AreKnown (set : DerivedSet) : Type 0 where
  pub given : AreGiven set.parts.now set.names.now
  pub elements : (n : ℕ) (part : ElementDecl) → slice_get set.parts.now.elements.parts n ≡ Some part → IfSome part.of (IsType set.parts.now)
  pub there : AreContentsThere set.parts.now
  pub declarations : AreDeclarationsOf set.parts.now set.declarations.now
  pub tables : (ids : List Bool) × AreTablesOf set.parts.now ids set.tables.now
  pub contents : AreContentsOf set.parts.now set.contents.now
