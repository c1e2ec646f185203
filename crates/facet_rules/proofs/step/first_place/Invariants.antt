use Rattle.std.proofs.Common.{◌≡◌, drop}
use Rattle.facet_rules.specs.Step.{first_place}
use Rattle.facet_rules.proofs.step.first_place.Given as goal

abbrev pub invariant-loop-place : goal.invariant-loop-place
invariant-loop-place l = first_place l.kind l.place (drop l.place l.facets) ≡ first_place l.kind 0 l.facets
