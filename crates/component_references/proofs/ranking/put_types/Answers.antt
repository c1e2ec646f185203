use Rattle.std.proofs.Common.{refl, subst}
use Rattle.component_references.specs.References.{type_references}
use Rattle.component_references.specs.Circles.{IsTypeCircle}
use Rattle.component_references.specs.inside.Parts.{IsOutcome, AreTypesRanked, AreTypeHeights}
use Rattle.component_references.proofs.OutcomeLaws.{types-none, types-written, types-heights}
use Rattle.component_references.proofs.ranking.put_types.Goals as goal

pub returns-in-Falling-clause-ranked : goal.returns-in-Falling-clause-ranked
returns-in-Falling-clause-ranked c =
    let t = c.args.parts.now in
    let ranking = subst (IsOutcome (type_references t) (IsTypeCircle t)) c.in-Falling.is c.requires.outcome in
    types-written t c.write_simples.new.parts c.write_complexes.new.parts c.in-Falling.ranks.items c.first_ranks-front.result.now c.other_ranks-back.result.now c.requires.closed ranking (cc) (cc) c.write_simples.ensures c.write_complexes.ensures

pub returns-in-Circular-clause-ranked : goal.returns-in-Circular-clause-ranked
returns-in-Circular-clause-ranked c = types-none c.args.parts.now c.args.ranking.now c.in-Circular.found c.in-Circular.is (AreTypesRanked c.args.parts.now) c.requires.outcome

pub returns-in-Circular-clause-tables : goal.returns-in-Circular-clause-tables
returns-in-Circular-clause-tables c = (c.args.parts.now.simples.ranks, c.args.parts.now.complexes.ranks, refl)

pub returns-in-Falling-clause-heights : goal.returns-in-Falling-clause-heights
returns-in-Falling-clause-heights c =
    let t = c.args.parts.now in
    let ranking = subst (IsOutcome (type_references t) (IsTypeCircle t)) c.in-Falling.is c.requires.outcome in
    types-heights t c.write_simples.new.parts c.write_complexes.new.parts c.in-Falling.ranks.items c.first_ranks-front.result.now c.other_ranks-back.result.now ranking (cc) (cc) c.write_simples.ensures c.write_complexes.ensures

pub returns-in-Circular-clause-heights : goal.returns-in-Circular-clause-heights
returns-in-Circular-clause-heights c = types-none c.args.parts.now c.args.ranking.now c.in-Circular.found c.in-Circular.is (AreTypeHeights c.args.parts.now) c.requires.outcome
