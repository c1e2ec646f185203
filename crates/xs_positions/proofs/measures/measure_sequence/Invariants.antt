use Rattle.std.proofs.Common.{◌≡◌, List, map, take}
use Rattle.xs_positions.specs.Tree.{Tree, sequence_of}
use Rattle.xs_positions.specs.Nodes.{tree_at}
use Rattle.xs_positions.specs.Measures.{measure_of}
use Rattle.xs_positions.proofs.measures.measure_sequence.Given as goal

abbrev pub invariant-loop-part : goal.invariant-loop-part
invariant-loop-part l = (trees : List Tree) → l.measures ≡ map measure_of trees → l.whole ≡ measure_of (sequence_of (take l.part-index (map (tree_at trees) l.parts)))
