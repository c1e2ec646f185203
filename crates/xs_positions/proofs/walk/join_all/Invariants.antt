use Rattle.std.proofs.Common.{List, length, IsTrue}
use Rattle.xs_positions.specs.Tree.{Tree, sequence_of}
use Rattle.xs_positions.specs.Measures.{has_word}
use Rattle.xs_positions.specs.Parts.{AreParts}
use Rattle.xs_positions.proofs.Blocks.{AreBlocks}
use Rattle.xs_positions.proofs.walk.join_all.Given as goal

-- the sets of the parts so far
abbrev pub invariant-loop-part : goal.invariant-loop-part
invariant-loop-part l =
    (trees : List Tree) → AreParts l.base trees l.fn.parts.items → IsTrue (has_word (sequence_of trees)) → AreBlocks trees l.base (length l.yielded) l.whole l.block
