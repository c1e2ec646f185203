use Rattle.std.proofs.Common.{sym}
use Rattle.schema_models.proofs.FindLaws.{members-there}
use Rattle.schema_models.proofs.FaultLaws.{with-members}
use Rattle.schema_models.proofs.faults.first_member.Goals as goal

pub first_misfit-requires : goal.first_misfit-requires
first_misfit-requires c = record {
  there = members-there c.args.parts.now c.args.p c.particle.result.now c.particle.ensures.part c.requires.ranked c.in_ok-members.members.now (sym c.in_ok-members.ensures);
}

pub returns : goal.returns
returns c =
    with-members c.args.parts.now c.args.p c.particle.result.now c.particle.ensures.part c.in_ok-members.members.now c.first_misfit.result (sym c.in_ok-members.ensures) c.first_misfit.ensures
