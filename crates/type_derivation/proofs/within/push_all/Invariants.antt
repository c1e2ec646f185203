use Rattle.std.proofs.Common.{◌≡◌, ◌++◌, take}
use Rattle.type_derivation.proofs.within.push_all.Given as goal

abbrev pub invariant-loop-member : goal.invariant-loop-member
invariant-loop-member l = l.todo.items ≡ l.initial.todo.items ++ take l.member-index l.members
