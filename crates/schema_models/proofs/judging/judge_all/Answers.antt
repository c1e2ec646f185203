use Rattle.std.proofs.Common.{arith, subst}
use Rattle.xs_codes.specs.Least.{IsLeast}
use Rattle.schema_models.specs.inside.Steps.{IsMisjudgedIn}
use Rattle.schema_models.proofs.JudgeLaws.{none-below, one-more, all-below}
use Rattle.schema_models.proofs.judging.judge_all.Goals as goal

pub loop-id-init : goal.loop-id-init
loop-id-init c = (omega arith, none-below c.args.source.names.now c.args.source.parts.now c.args.source.members.now c.args.models.now)

pub loop-id-preserved : goal.loop-id-preserved
loop-id-preserved c =
    let there = c.in-Some.ensures.there.1 in
    let own = subst (λ n. IsLeast (IsMisjudgedIn c.args.source.names.now c.args.source.parts.now c.args.source.members.now c.args.models.now n) c.in_ok-found.found) c.in-Some.ensures.there.0 c.in_ok-found.ensures in (
      omega (arith, there),
      one-more c.args.source.names.now c.args.source.parts.now c.args.source.members.now c.args.models.now c.loop-id.number c.loop-id.best c.in_ok-found.found c.sooner-best.result c.sooner-best.ensures.sooner c.loop-id.invariant.1 own,
    )

pub returns : goal.returns
returns c =
    all-below c.args.source.names.now c.args.source.parts.now c.args.source.members.now c.args.models.now c.loop-id.number c.loop-id.best c.in_default.ensures.past c.loop-id.invariant.0 c.loop-id.invariant.1
