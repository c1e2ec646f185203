use Rattle.std.proofs.Common.{◌≡◌, ◌+◌, get_or, set, sym, ap, ◌∙◌, subst, arith}
use Rattle.component_references.specs.NumberedCircles.{refs_of, rank_above}
use Rattle.component_references.specs.inside.Orders.{AreSet}
use Rattle.component_references.proofs.FirstLaws.{set-more, set-all}
use Rattle.component_references.proofs.visiting.heights_of.Goals as goal

pub loop-x-preserved : goal.loop-x-preserved
loop-x-preserved c =
    let refs = c.args.refs.now in
    let order = c.args.order.now in
    let ranks = c.loop-x.ranks.items in
    let i = c.loop-x.x-index in
    let is : c.in_ok-rank.rank ≡ rank_above ranks (refs_of refs (get_or order i 0)) =
    c.in_ok-rank.ensures.above ∙ (ap (λ rs. rank_above rs c.refs_at.result.now) c.as_slice.ensures.value ∙ ap (rank_above ranks) c.refs_at.ensures) in
    subst (λ r. AreSet refs order (set ranks (get_or order i 0) r) (i + 1)) (sym is) (set-more refs order ranks c.requires.order i c.loop-x-test.true c.loop-x.invariant (i + 1) (omega arith))

pub returns-clause-heights : goal.returns-clause-heights
returns-clause-heights c = set-all c.args.refs.now c.args.order.now c.loop-x.ranks.items c.requires.order c.loop-x.x-index (omega (arith, c.loop-x-test.false)) c.loop-x.invariant
