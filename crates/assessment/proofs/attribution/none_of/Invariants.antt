use Rattle.std.proofs.Common.{◌≡◌, None}
use Rattle.std.specs.Prelude.{replicate}
use Rattle.assessment.proofs.attribution.none_of.Given as goal

abbrev pub invariant-loop : goal.invariant-loop
invariant-loop l = l.terms.items ≡ replicate l.counter None
