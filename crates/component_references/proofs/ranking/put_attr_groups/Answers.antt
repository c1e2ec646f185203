use Rattle.std.proofs.Common.{refl, subst}
use Rattle.component_references.specs.References.{attr_group_references}
use Rattle.component_references.specs.Circles.{IsAttrGroupCircle}
use Rattle.component_references.specs.inside.Parts.{IsOutcome, AreAttrGroupsRanked, AreAttrGroupHeights}
use Rattle.component_references.proofs.OutcomeLaws.{attr_groups-none, attr_groups-written, attr_groups-heights}
use Rattle.component_references.proofs.ranking.put_attr_groups.Goals as goal

pub returns-in-Falling-clause-ranked : goal.returns-in-Falling-clause-ranked
returns-in-Falling-clause-ranked c =
    let t = c.args.parts.now in
    let ranking = subst (IsOutcome (attr_group_references t) (IsAttrGroupCircle t)) c.in-Falling.is c.requires.outcome in
    attr_groups-written t c.write_attr_groups.new.parts c.in-Falling.ranks.items _ c.requires.closed ranking (cc) c.write_attr_groups.ensures

pub returns-in-Circular-clause-ranked : goal.returns-in-Circular-clause-ranked
returns-in-Circular-clause-ranked c = attr_groups-none c.args.parts.now c.args.ranking.now c.in-Circular.found c.in-Circular.is (AreAttrGroupsRanked c.args.parts.now) c.requires.outcome

pub returns-in-Circular-clause-tables : goal.returns-in-Circular-clause-tables
returns-in-Circular-clause-tables c = (c.args.parts.now.attr_groups.ranks, refl)

pub returns-in-Falling-clause-heights : goal.returns-in-Falling-clause-heights
returns-in-Falling-clause-heights c =
    let t = c.args.parts.now in
    let ranking = subst (IsOutcome (attr_group_references t) (IsAttrGroupCircle t)) c.in-Falling.is c.requires.outcome in
    attr_groups-heights t c.write_attr_groups.new.parts c.in-Falling.ranks.items _ ranking (cc) c.write_attr_groups.ensures

pub returns-in-Circular-clause-heights : goal.returns-in-Circular-clause-heights
returns-in-Circular-clause-heights c = attr_groups-none c.args.parts.now c.args.ranking.now c.in-Circular.found c.in-Circular.is (AreAttrGroupHeights c.args.parts.now) c.requires.outcome
