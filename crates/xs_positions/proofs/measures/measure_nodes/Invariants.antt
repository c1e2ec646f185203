use Rattle.std.proofs.Common.{◌≡◌, map, take}
use Rattle.xs_positions.specs.Nodes.{trees_of}
use Rattle.xs_positions.specs.Measures.{measure_of}
use Rattle.xs_positions.proofs.measures.measure_nodes.Given as goal

abbrev pub invariant-loop-node : goal.invariant-loop-node
invariant-loop-node l = l.measures.items ≡ map measure_of (trees_of (take l.node-index l.nodes))
