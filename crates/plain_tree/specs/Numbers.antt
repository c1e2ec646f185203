-- Namespaces and expanded names by their numbers in a table of names.
use Rattle.std.specs.Prelude.{ℕ, List, Option, None, Some, unwrap_or}
use Rattle.xs_names.specs.Names.{NameTable, absent_space, space_number, name_number}
use Rattle.tree_rows.specs.declared.name.Expanded.{Expanded}

module _ (names : NameTable) where
  -- the number of a namespace
  abbrev pub space_in : Option (List ℕ) → ℕ
  space_in None = absent_space
  space_in (Some space) = unwrap_or (space_number names space) absent_space

  -- the number of a name
  abbrev pub name_in : Expanded → ℕ
  name_in name = unwrap_or (name_number names (space_in name.namespace) name.local) 0
