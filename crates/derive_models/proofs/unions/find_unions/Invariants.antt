use Rattle.std.proofs.Common.{◌≤◌, ◌-◌, length}
use Rattle.derive_models.specs.inside.Asked.{AreLooked}
use Rattle.derive_models.proofs.unions.find_unions.Given as goal

abbrev pub invariant-loop-id : goal.invariant-loop-id
invariant-loop-id l = (l.number ≤ length l.parts.simples.parts) × AreLooked l.parts l.asked l.number l.unions.items

abbrev pub decreases-loop-id : goal.decreases-loop-id
decreases-loop-id l = length l.parts.simples.parts - l.number
