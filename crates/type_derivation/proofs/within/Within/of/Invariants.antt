use Rattle.std.proofs.Common.{◌≡◌}
use Rattle.type_derivation.proofs.SpreadLaws.{IsSpread, left}
use Rattle.type_derivation.proofs.within.Within.of.Given as goal

abbrev pub invariant-loop-of : goal.invariant-loop-of
invariant-loop-of l = (l.within.base ≡ l.fn.base) × IsSpread l.parts l.fn.base l.within l.todo.items

abbrev pub decreases-loop-of : goal.decreases-loop-of
decreases-loop-of l = left l.parts l.within l.todo.items
