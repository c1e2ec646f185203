use Rattle.derive_faults.proofs.FaultLaws.{next-one, all-below}
use Rattle.derive_faults.specs.Extensions.{Breaks}
use Rattle.derive_faults.proofs.extensions.first_extension.Goals as goal

pub loop-id-preserved : goal.loop-id-preserved
loop-id-preserved c =
    next-one 7 c.args.parts.now (Breaks c.args.parts.now) c.loop-id.number c.in-Some.id c.loop-id.best c.fault_of.result c.sooner-best.result c.in-Some.ensures.there c.sooner-best.ensures.sooner c.loop-id.invariant.1 c.fault_of.ensures.least

pub returns : goal.returns
returns c = record { least = all-below 7 c.args.parts.now (Breaks c.args.parts.now) c.loop-id.number c.loop-id.best c.in_default.ensures.past c.loop-id.invariant.1 }
