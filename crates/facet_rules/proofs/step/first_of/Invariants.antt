use Rattle.std.proofs.Common.{◌≡◌, drop}
use Rattle.facet_rules.specs.Step.{first_of}
use Rattle.facet_rules.proofs.step.first_of.Given as goal

abbrev pub invariant-loop-facet : goal.invariant-loop-facet
invariant-loop-facet l = first_of l.kind (drop l.facet-index l.facets) ≡ first_of l.kind l.facets
