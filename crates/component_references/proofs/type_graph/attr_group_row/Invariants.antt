use Rattle.std.proofs.Common.{◌≡◌, take}
use Rattle.component_references.proofs.type_graph.attr_group_row.Given as goal

abbrev pub invariant-loop-group : goal.invariant-loop-group
invariant-loop-group l = l.row ≡ take l.group-index l.groups
