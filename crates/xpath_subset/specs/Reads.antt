-- What the paths of identity constraints are read as: Structures 3.11.1, 3.11.6.
use Rattle.std.specs.Prelude.{ℕ, List, Ok}
use Rattle.std.specs.List.{AllZip}
use Rattle.xs_components.specs.Tables.{Tables}
use Rattle.xs_components.specs.declared.constraint.Constraint.{Constraint}
use Rattle.xs_components.specs.declared.constraint.PathText.{PathText}
use Rattle.xpath_subset.specs.Grammar.{WrittenPaths, IsSelector, IsField, IsReading, paths_meaning}
use Rattle.xpath_subset.specs.declared.path.Path.{Path}
use Rattle.xpath_subset.specs.declared.paths.IdentityPaths.{IdentityPaths}

-- the text is written by the grammar, its prefixes are bound in the scope of its element, and it means these paths
abbrev pub IsReadAs : (List ℕ → WrittenPaths → Type 0) → PathText → List Path → Type 0
IsReadAs IsWritten path paths = IsReading (IsWritten path.text) (paths_meaning path.scope) (Ok paths)

-- the paths of the selector and of each field, in order
pub record ArePathsOf (c : Constraint) (paths : IdentityPaths) : Type 0 where
  pub selector : IsReadAs IsSelector c.selector paths.selector
  pub fields : AllZip (IsReadAs IsField) c.fields paths.fields

-- those of all identity constraints, by their numbers
abbrev pub AreIdentities : Tables → List IdentityPaths → Type 0
AreIdentities t identities = AllZip ArePathsOf t.constraints.parts identities
