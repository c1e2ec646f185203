-- The names that the constraints look at are in the table.
use Rattle.std.specs.Prelude.{All, IfSome}
use Rattle.xs_names.specs.Names.{NameTable}
use Rattle.representations.specs.declared.parts.Represented.{Represented}
use Rattle.reference_faults.specs.Attributes.{attribute_name}
use Rattle.reference_faults.specs.Imports.{IsInTable}
use Rattle.reference_faults.specs.References.{references, name_of}

-- the names that are referred to, and that of an attribute
pub record IsNamed (t : NameTable) (form : Represented) : Type 0 where
  pub references : All (λ r. IfSome (name_of r) (IsInTable t)) (references form)
  pub attribute : IfSome (attribute_name form) (IsInTable t)
