use Rattle.component_references.specs.Heights.{type_height}
use Rattle.element_declarations.proofs.BlockLaws.{IsDone}
use Rattle.element_declarations.proofs.blocking.between.Given as goal

abbrev pub invariant-up : goal.invariant-up
invariant-up l = IsDone l.parts l.base l.fn.sub l.at l.found

abbrev pub decreases-up : goal.decreases-up
decreases-up l = type_height l.parts l.at
