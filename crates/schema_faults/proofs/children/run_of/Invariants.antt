use Rattle.std.proofs.Common.{◌≡◌, ◌+◌, drop}
use Rattle.std.specs.List.{prefix_len}
use Rattle.schema_values.specs.Table.{is_in}
use Rattle.schema_faults.proofs.children.run_of.Given as goal

abbrev pub invariant-loop-i : goal.invariant-loop-i
invariant-loop-i l = l.i + prefix_len (is_in l.class) (drop l.i l.tags) ≡ prefix_len (is_in l.class) l.tags
