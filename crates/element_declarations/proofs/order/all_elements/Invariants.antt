use Rattle.std.proofs.Common.{◌≡◌, ◌≤◌, ◌-◌, length}
use Rattle.element_declarations.specs.inside.Steps.{AreCounted}
use Rattle.element_declarations.proofs.order.all_elements.Given as goal

abbrev pub invariant-loop-element : goal.invariant-loop-element
invariant-loop-element l = (length l.all.items ≡ l.number) × (l.number ≤ length l.parts.elements.parts) × AreCounted l.all.items

abbrev pub decreases-loop-element : goal.decreases-loop-element
decreases-loop-element l = length l.parts.elements.parts - l.number
