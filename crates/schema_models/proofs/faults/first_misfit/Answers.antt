use Rattle.schema_models.specs.AllLimits.{IsMisfit}
use Rattle.schema_models.proofs.FaultLaws.{among-none, among-more, among-all}
use Rattle.schema_models.proofs.faults.first_misfit.Goals as goal

pub loop-q-init : goal.loop-q-init
loop-q-init c = among-none (IsMisfit c.args.parts.now) c.args.members.now

pub loop-q-preserved : goal.loop-q-preserved
loop-q-preserved c =
    among-more (IsMisfit c.args.parts.now) c.args.members.now c.loop-q.q-index c.q-item.result c.loop-q.best c.misfit.result c.sooner-best.result c.loop-q-test.true c.q-item.is c.sooner-best.ensures.sooner c.loop-q.invariant c.misfit.ensures

pub returns : goal.returns
returns c = among-all (IsMisfit c.args.parts.now) c.args.members.now c.loop-q.q-index c.loop-q.best c.loop-q-test.false c.loop-q.invariant
