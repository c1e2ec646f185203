-- The table that the fields of `Positions` hold.
use Rattle.std.specs.Prelude.{◌≡◌, ◌<◌, ◌^◌, length}
use Rattle.xs_positions.specs.Positions.{Table}
use Rattle.xs_positions.specs.declared.find.Positions.TheInside.{Inside}

abbrev pub table_of : Inside → Table
table_of inside = record {
  symbols = inside.symbols.items;
  first = inside.sets.first.items;
  last = inside.sets.last.items;
  follow = inside.follow;
  useful = inside.sets.useful.items;
  nullable = inside.sets.nullable;
}

-- each position has a symbol, a set and a flag, and each has a number of 32 bits
abbrev pub AreOneEach : Inside → Type 0
AreOneEach inside =
    (length inside.follow ≡ length inside.symbols.items) ×
    (length inside.sets.useful.items ≡ length inside.symbols.items) ×
    (length inside.symbols.items < 2 ^ 32)
