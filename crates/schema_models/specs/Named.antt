-- Substitution groups over a table of names.
use Rattle.std.specs.Prelude.{ℕ, ◌<◌, List, Contains, length}
use Rattle.xs_names.specs.Names.{NameTable}
use Rattle.xs_components.specs.Heads.{names_of}

-- the members of substitution groups (Structures 3.3.6) have names of the table
abbrev pub AreNamed : NameTable → List (List ℕ) → Type 0
AreNamed t members = (element n : ℕ) → Contains (names_of members element) n → n < length t.names
