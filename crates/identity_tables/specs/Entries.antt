-- What contracts see of a table of IDs.
use Rattle.std.specs.Prelude.{List}
use Rattle.std.specs.declared.string.String.{String}
use Rattle.std.specs.declared.alloc.Global.{Global}
use Rattle.identity_tables.specs.declared.id_table.Uses.{Uses}

-- each ID or reference, with its bearers and how often it is referred to
abbrev pub IdEntries : Type 0
IdEntries = List (String Global × Uses)
