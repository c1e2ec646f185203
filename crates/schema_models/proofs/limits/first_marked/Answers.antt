use Rattle.std.proofs.Common.{arith, subst}
use Rattle.xs_codes.specs.Least.{IsLeast}
use Rattle.schema_models.specs.inside.Marks.{IsUnlimitedIn}
use Rattle.schema_models.proofs.FaultLaws.{none-below, one-more, all-below}
use Rattle.schema_models.proofs.limits.first_marked.Goals as goal

pub loop-p-init : goal.loop-p-init
loop-p-init c = (omega arith, none-below c.args.parts.now)

pub loop-p-preserved : goal.loop-p-preserved
loop-p-preserved c =
    let there = c.in-Some.ensures.there.1 in
    let own = subst (λ n. IsLeast (IsUnlimitedIn c.args.parts.now n) c.first_in.result) c.in-Some.ensures.there.0 c.first_in.ensures in (
      omega (arith, there),
      one-more c.args.parts.now c.loop-p.number c.loop-p.best c.first_in.result c.sooner-best.result c.sooner-best.ensures.sooner c.loop-p.invariant.1 own,
    )

pub returns : goal.returns
returns c = all-below c.args.parts.now c.loop-p.number c.loop-p.best c.in_default.ensures.past c.loop-p.invariant.0 c.loop-p.invariant.1
