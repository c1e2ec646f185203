use Rattle.std.proofs.Common.{◌≤◌, ◌-◌, length}
use Rattle.derive_models.specs.inside.Asked.{AreAsked}
use Rattle.derive_models.proofs.unions.asked_simples.Given as goal

abbrev pub invariant-loop-id : goal.invariant-loop-id
invariant-loop-id l = (l.number ≤ length l.parts.elements.parts) × AreAsked l.parts l.number l.asked.items

abbrev pub decreases-loop-id : goal.decreases-loop-id
decreases-loop-id l = length l.parts.elements.parts - l.number
