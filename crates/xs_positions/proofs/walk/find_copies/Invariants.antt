use Rattle.std.proofs.Common.{◌≡◌, length, replicate, IsTrue}
use Rattle.xs_positions.specs.Tree.{Tree}
use Rattle.xs_positions.specs.Measures.{has_word}
use Rattle.xs_positions.specs.Parts.{AreParts}
use Rattle.xs_positions.specs.Copies.{AreJoined}
use Rattle.xs_positions.proofs.walk.find_copies.Given as goal

-- the sets of the copies so far, and where words of enough of them may end
abbrev pub invariant-loop-part : goal.invariant-loop-part
invariant-loop-part l = record {
  counted : l.count ≡ length l.yielded;
  joined : (tree : Tree) → AreParts l.base (replicate (length l.fn.parts.items) tree) l.fn.parts.items → IsTrue (has_word tree) → AreJoined tree l.base l.least l.count l.whole l.ends.items;
}
