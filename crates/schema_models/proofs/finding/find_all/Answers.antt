use Rattle.std.proofs.Common.{sym}
use Rattle.content_models.proofs.WayLaws.{below-lower}
use Rattle.schema_models.proofs.FindLaws.{way-first, way-more, way-found, all-read}
use Rattle.schema_models.proofs.finding.find_all.Goals as goal

pub loop-below-init : goal.loop-below-init
loop-below-init c = way-first c.args.parts.now c.args.p c.requires.there

pub loop-below-smaller : goal.loop-below-smaller
loop-below-smaller c = (below-lower c.args.parts.now c.requires.ranked c.loop-below.at c.in-Some.below (sym c.in-Some.ensures)).lower

pub loop-below-preserved : goal.loop-below-preserved
loop-below-preserved c = way-more c.args.parts.now c.requires.ranked c.args.p c.loop-below.at c.in-Some.below c.loop-below.invariant (sym c.in-Some.ensures)

pub returns-in-Some-all_members-clause-found : goal.returns-in-Some-all_members-clause-found
returns-in-Some-all_members-clause-found c =
    way-found c.args.parts.now c.args.p c.loop-below.at c.loop-below.invariant (sym c.in_default.ensures) c.in-Some-all_members.field-0.now
    (all-read c.args.parts.now c.loop-below.at c.particle.result.now c.particle.ensures.part c.in-Some-all_members.field-0.now (sym c.in-Some-all_members.ensures))
