use Rattle.std.proofs.Common.{◌≤◌, ◌-◌, length}
use Rattle.derive_models.specs.Steps.{AreElements}
use Rattle.derive_models.proofs.elements.elements_of.Given as goal

abbrev pub invariant-loop-id : goal.invariant-loop-id
invariant-loop-id l = record {
  few : l.number ≤ length l.parts.elements.parts;
  terms : AreElements l.parts l.names l.fixed l.number l.terms.items;
}

abbrev pub decreases-loop-id : goal.decreases-loop-id
decreases-loop-id l = length l.parts.elements.parts - l.number
