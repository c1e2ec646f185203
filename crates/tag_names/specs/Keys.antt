-- What contracts see of the key of an expanded name.
use Rattle.std.specs.Prelude.{ℕ, List, Option, String, string_bytes}
use Rattle.std.specs.Option.{option_map}
use Rattle.tree_rows.specs.declared.name.Expanded.{Expanded}
use Rattle.tag_names.specs.declared.doubles.NameKey.{NameKey}

abbrev pub space_of : {Z : Type 0} → Option (String Z) → Option (List ℕ)
space_of space = option_map string_bytes space

abbrev pub name_of : NameKey → Expanded
name_of key = record { namespace = space_of key.namespace; local = string_bytes key.local }
