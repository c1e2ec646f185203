use Rattle.element_declarations.proofs.JoinLaws.{IsJoinedBelow, left}
use Rattle.element_declarations.proofs.grouping.join.Given as goal

abbrev pub invariant-up : goal.invariant-up
invariant-up l = IsJoinedBelow l.parts l.element l.fn.lists.items l.above l.lists.items

abbrev pub decreases-up : goal.decreases-up
decreases-up l = left l.parts l.above
