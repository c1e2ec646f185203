use Rattle.std.proofs.Common.{List, length, take}
use Rattle.xs_positions.specs.Tree.{Tree, choice_of}
use Rattle.xs_positions.specs.Parts.{IsPartOf, AreParts}
use Rattle.xs_positions.proofs.walk.choose.Given as goal

-- the sets of the parts so far
abbrev pub invariant-loop-part : goal.invariant-loop-part
invariant-loop-part l = (trees : List Tree) → AreParts l.base trees l.fn.parts.items → IsPartOf (choice_of (take (length l.yielded) trees)) l.base l.whole
