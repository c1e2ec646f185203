-- The keys and uniques that the keyrefs of a schema set refer to.
use Rattle.std.specs.Prelude.{◌≡◌, ℕ, List, Option, None, Some, map}
use Rattle.xs_components.specs.declared.constraint.Constraint.{Constraint}
use Rattle.xs_components.specs.declared.constraint.ConstraintKind.{ConstraintKind}
use Rattle.xs_components.specs.declared.constraint.ConstraintKind.TheVariants.{Unique, Key, Keyref}
use Rattle.key_records.specs.References.{AreReferences, refers}
use Rattle.key_records.specs.declared.references.References.{References}

abbrev pub referred : ConstraintKind → Option ℕ
referred Unique = None
referred Key = None
referred (Keyref key) = Some key

abbrev pub key_in : Constraint → Option ℕ
key_in c = referred c.kind

pub record AreReferencesOf (parts : List Constraint) (r : References) : Type 0 where
  pub sound : AreReferences r
  pub refers_are : refers r ≡ map key_in parts
