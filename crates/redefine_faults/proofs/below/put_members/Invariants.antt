use Rattle.std.proofs.Common.{◌≡◌, ◌++◌, drop}
use Rattle.redefine_faults.proofs.below.put_members.Given as goal

abbrev pub invariant-loop-item : goal.invariant-loop-item
invariant-loop-item l = l.left.items ++ drop l.item-index l.members ≡ l.initial.left.items ++ l.members
