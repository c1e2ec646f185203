use Rattle.std.proofs.Common.{◌≡◌, None}
use Rattle.std.specs.Prelude.{replicate}
use Rattle.build_components.proofs.particles.no_numbers.Given as goal

abbrev pub invariant-loop : goal.invariant-loop
invariant-loop l = l.ids.items ≡ replicate l.counter None
