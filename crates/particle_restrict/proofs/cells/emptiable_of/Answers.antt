use Rattle.particle_restrict.proofs.TotalLaws.{emptiable-more}
use Rattle.particle_restrict.proofs.cells.emptiable_of.Goals as goal

pub loop-member-preserved : goal.loop-member-preserved
loop-member-preserved c trees e =
    emptiable-more c.args.base_totals.now trees c.args.members.now c.loop-member.member-index c.total_at-total.result c.may_be_nothing.result c.loop-member.flags.items c.push.new.self.items e
    c.loop-member-test.true c.total_at-total.ensures c.may_be_nothing.ensures c.in_ok-push.ensures.items (c.loop-member.invariant trees e)
