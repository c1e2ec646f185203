use Rattle.std.proofs.Common.{refl, subst}
use Rattle.component_references.specs.References.{model_references}
use Rattle.component_references.specs.Circles.{IsGroupCircle}
use Rattle.component_references.specs.inside.Parts.{IsOutcome, AreModelsRanked, AreModelHeights}
use Rattle.component_references.proofs.OutcomeLaws.{models-none, models-written, models-heights}
use Rattle.component_references.proofs.ranking.put_models.Goals as goal

pub returns-in-Falling-clause-ranked : goal.returns-in-Falling-clause-ranked
returns-in-Falling-clause-ranked c =
    let t = c.args.parts.now in
    let ranking = subst (IsOutcome (model_references t) (IsGroupCircle t)) c.in-Falling.is c.requires.outcome in
    models-written t c.write_groups.new.parts c.write_particles.new.parts c.in-Falling.ranks.items c.first_ranks-front.result.now c.other_ranks-back.result.now c.requires.closed ranking (cc) (cc) c.write_groups.ensures c.write_particles.ensures

pub returns-in-Circular-clause-ranked : goal.returns-in-Circular-clause-ranked
returns-in-Circular-clause-ranked c = models-none c.args.parts.now c.args.ranking.now c.in-Circular.found c.in-Circular.is (AreModelsRanked c.args.parts.now) c.requires.closed c.requires.outcome

pub returns-in-Circular-clause-tables : goal.returns-in-Circular-clause-tables
returns-in-Circular-clause-tables c = (c.args.parts.now.groups.ranks, c.args.parts.now.particles.ranks, refl)

pub returns-in-Falling-clause-heights : goal.returns-in-Falling-clause-heights
returns-in-Falling-clause-heights c =
    let t = c.args.parts.now in
    let ranking = subst (IsOutcome (model_references t) (IsGroupCircle t)) c.in-Falling.is c.requires.outcome in
    models-heights t c.write_groups.new.parts c.write_particles.new.parts c.in-Falling.ranks.items c.first_ranks-front.result.now c.other_ranks-back.result.now ranking (cc) (cc) c.write_groups.ensures c.write_particles.ensures

pub returns-in-Circular-clause-heights : goal.returns-in-Circular-clause-heights
returns-in-Circular-clause-heights c = models-none c.args.parts.now c.args.ranking.now c.in-Circular.found c.in-Circular.is (AreModelHeights c.args.parts.now) c.requires.closed c.requires.outcome
