use Rattle.std.proofs.Common.{arith, subst}
use Rattle.xs_codes.specs.Least.{IsLeast}
use Rattle.derive_faults.specs.Exclusions.{IsExcludedAt}
use Rattle.derive_faults.proofs.ExclusionLaws.{one-more, all-below}
use Rattle.derive_faults.proofs.exclusions.first_excluded.Goals as goal

pub loop-element-preserved : goal.loop-element-preserved
loop-element-preserved c =
    let there = c.in-Some.ensures.there.1 in
    let own = subst (λ n. IsLeast (IsExcludedAt c.args.parts.now n) c.in_ok-found.found) c.in-Some.ensures.there.0 c.in_ok-found.ensures in (
      omega (arith, there),
      one-more c.args.parts.now c.loop-element.number c.loop-element.best c.in_ok-found.found c.sooner-best.result c.sooner-best.ensures.sooner c.loop-element.invariant.1 own,
    )

pub returns : goal.returns
returns c = record { least = all-below c.args.parts.now c.loop-element.number c.loop-element.best c.in_default.ensures.past c.loop-element.invariant.1 }
