use Rattle.std.proofs.Common.{◌≡◌, take}
use Rattle.component_references.specs.References.{type_numbers}
use Rattle.component_references.proofs.type_graph.type_row.Given as goal

abbrev pub invariant-loop-of : goal.invariant-loop-of
invariant-loop-of l = l.row ≡ type_numbers l.simples (take l.of-index l.types)
