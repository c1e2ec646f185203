use Rattle.std.proofs.Common.{arith}
use Rattle.facets.specs.Trying.{IsPlainRead}
use Rattle.facets.proofs.Skipping.{skipped_on}
use Rattle.facets.proofs.trying.try_plains.Goals as goal

pub loop-place-preserved-then-place-start : goal.loop-place-preserved-then-place-start
loop-place-preserved-then-place-start c = λ outcome t. c.loop-place.invariant outcome
    (skipped_on (IsPlainRead c.args.scope.now c.args.text.now) c.args.gates.now c.args.members.now c.loop-place.place c.loop-place.place c.loop-place.start outcome (omega arith) c.if-place-start.true t)
