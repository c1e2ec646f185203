use Rattle.type_derivation.specs.inside.Filling.{AreCounted}
use Rattle.type_derivation.proofs.type_order.counted.Given as goal

abbrev pub invariant-loop-number : goal.invariant-loop-number
invariant-loop-number l = AreCounted l.number l.numbers.items
