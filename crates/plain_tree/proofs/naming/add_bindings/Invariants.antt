use Rattle.std.proofs.Common.{◌≡◌, drop}
use Rattle.xs_names.specs.Names.{Grown, IsSound}
use Rattle.plain_tree.specs.Table.{with_bindings}
use Rattle.plain_tree.proofs.naming.add_bindings.Given as goal

abbrev pub invariant-loop-binding : goal.invariant-loop-binding
invariant-loop-binding l = record {
  table : with_bindings l.names (drop l.binding-index l.bindings) ≡ with_bindings l.initial.names l.bindings;
  grown : Grown l.initial.names l.names;
  sound : IsSound l.names;
}
