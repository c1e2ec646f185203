use Rattle.std.proofs.Common.{refl, subst}
use Rattle.component_references.specs.References.{element_references}
use Rattle.component_references.specs.Circles.{IsElementCircle}
use Rattle.component_references.specs.inside.Parts.{IsOutcome, AreElementsRanked, AreElementHeights}
use Rattle.component_references.proofs.OutcomeLaws.{elements-none, elements-written, elements-heights}
use Rattle.component_references.proofs.ranking.put_elements.Goals as goal

pub returns-in-Falling-clause-ranked : goal.returns-in-Falling-clause-ranked
returns-in-Falling-clause-ranked c =
    let t = c.args.parts.now in
    let ranking = subst (IsOutcome (element_references t) (IsElementCircle t)) c.in-Falling.is c.requires.outcome in
    elements-written t c.write_elements.new.parts c.in-Falling.ranks.items _ c.requires.closed ranking (cc) c.write_elements.ensures

pub returns-in-Circular-clause-ranked : goal.returns-in-Circular-clause-ranked
returns-in-Circular-clause-ranked c = elements-none c.args.parts.now c.args.ranking.now c.in-Circular.found c.in-Circular.is (AreElementsRanked c.args.parts.now) c.requires.outcome

pub returns-in-Circular-clause-tables : goal.returns-in-Circular-clause-tables
returns-in-Circular-clause-tables c = (c.args.parts.now.elements.ranks, refl)

pub returns-in-Falling-clause-heights : goal.returns-in-Falling-clause-heights
returns-in-Falling-clause-heights c =
    let t = c.args.parts.now in
    let ranking = subst (IsOutcome (element_references t) (IsElementCircle t)) c.in-Falling.is c.requires.outcome in
    elements-heights t c.write_elements.new.parts c.in-Falling.ranks.items _ ranking (cc) c.write_elements.ensures

pub returns-in-Circular-clause-heights : goal.returns-in-Circular-clause-heights
returns-in-Circular-clause-heights c = elements-none c.args.parts.now c.args.ranking.now c.in-Circular.found c.in-Circular.is (AreElementHeights c.args.parts.now) c.requires.outcome
