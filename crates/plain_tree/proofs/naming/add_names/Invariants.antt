use Rattle.std.proofs.Common.{◌≡◌, drop}
use Rattle.xs_names.specs.Names.{Grown, IsSound}
use Rattle.plain_tree.specs.inside.Rows.{with_rows}
use Rattle.plain_tree.proofs.naming.add_names.Given as goal

abbrev pub invariant-loop-row : goal.invariant-loop-row
invariant-loop-row l = record {
  table : with_rows l.names (drop l.row-index l.row-items) ≡ with_rows l.initial.names l.row-items;
  grown : Grown l.initial.names l.names;
  sound : IsSound l.names;
}
