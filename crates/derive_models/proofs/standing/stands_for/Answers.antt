use Rattle.derive_models.proofs.StandingLaws.{standing-all}
use Rattle.derive_models.proofs.standing.stands_for.Goals as goal

pub returns : goal.returns
returns c = record {
  standing = standing-all c.args.parts.now c.args.members.now c.loop-id.number c.loop-id.all.items c.loop-id.invariant.few c.in_default.ensures.past c.loop-id.invariant.standing;
}
