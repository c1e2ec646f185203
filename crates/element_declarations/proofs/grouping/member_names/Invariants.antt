use Rattle.std.proofs.Common.{take}
use Rattle.element_declarations.specs.inside.Steps.{IsInOrder}
use Rattle.element_declarations.proofs.GroupLaws.{AreGroupsSoFar}
use Rattle.element_declarations.proofs.grouping.member_names.Given as goal

abbrev pub invariant-loop-element : goal.invariant-loop-element
invariant-loop-element l = IsInOrder l.parts l.element-items × AreGroupsSoFar l.parts (take l.element-index l.element-items) l.lists.items
