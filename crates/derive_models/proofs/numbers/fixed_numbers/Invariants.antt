use Rattle.std.proofs.Common.{◌≡◌, ◌≤◌, ◌-◌, length}
use Rattle.derive_models.specs.inside.Numbered.{AreNumbered}
use Rattle.derive_models.proofs.numbers.fixed_numbers.Given as goal

abbrev pub invariant-loop-id : goal.invariant-loop-id
invariant-loop-id l = record {
  few : l.number ≤ length l.parts.elements.parts;
  same : l.types ≡ l.fn.types;
  numbered : AreNumbered l.parts l.keys.keys l.number l.numbers.items;
}

abbrev pub decreases-loop-id : goal.decreases-loop-id
decreases-loop-id l = length l.parts.elements.parts - l.number
