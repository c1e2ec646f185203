-- The codes of identity constraints of all elements: Structures 3.11.4.
use Rattle.std.specs.Prelude.{List, [], ◌∷◌, ◌++◌}
use Rattle.xs_names.specs.Names.{NameTable}
use Rattle.xs_codes.specs.declared.fault.Found.{Found}
use Rattle.xs_components.specs.Tables.{Tables}
use Rattle.xpath_subset.specs.declared.paths.IdentityPaths.{IdentityPaths}
use Rattle.identity_constraints.specs.Seen.{KeyForest, none, element}
use Rattle.identity_constraints.specs.Satisfied.{identity_codes}

-- of each element in document order
abbrev pub all_codes : NameTable → Tables → List IdentityPaths → KeyForest → List (List Found)
all_codes names t identities none = []
all_codes names t identities (element own below next) = identity_codes names t identities own below ∷ (all_codes names t identities below ++ all_codes names t identities next)
