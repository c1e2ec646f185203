use Rattle.std.proofs.Common.{◌≡◌, refl, sym, ap, ◌∙◌}
use Rattle.xs_codes.specs.Least.{sooner}
use Rattle.component_references.proofs.RankLaws.{all-ranks}
use Rattle.component_references.proofs.AllLaws.{ranked-if-none, heights-if-none, least-of-all}
use Rattle.component_references.proofs.ranking.rank_components.Goals as goal

pub returns-clause-tables : goal.returns-clause-tables
returns-clause-tables c = all-ranks c.args.parts.now c.rank_types.new.parts c.rank_elements.new.parts c.rank_attr_groups.new.parts c.rank_models.new.parts c.in_ok-types.ensures.tables c.in_ok-elements.ensures.tables c.in_ok-attr_groups.ensures.tables c.in_ok-models.ensures.tables

pub returns-clause-ranked : goal.returns-clause-ranked
returns-clause-ranked c =
    ranked-if-none c.args.parts.now c.rank_types.new.parts c.rank_elements.new.parts c.rank_attr_groups.new.parts c.rank_models.new.parts c.in_ok-types.ensures.tables c.in_ok-elements.ensures.tables c.in_ok-attr_groups.ensures.tables c.in_ok-models.ensures.tables
    c.in_ok-types.types c.in_ok-elements.elements c.in_ok-attr_groups.attr_groups c.in_ok-models.models c.sooner-3.result (cc)
    c.in_ok-types.ensures.ranked c.in_ok-elements.ensures.ranked c.in_ok-attr_groups.ensures.ranked c.in_ok-models.ensures.ranked

pub returns-clause-least : goal.returns-clause-least
returns-clause-least c =
    least-of-all c.args.parts.now c.rank_types.new.parts c.rank_elements.new.parts c.rank_attr_groups.new.parts c.rank_models.new.parts c.in_ok-types.ensures.tables c.in_ok-elements.ensures.tables c.in_ok-attr_groups.ensures.tables c.in_ok-models.ensures.tables
    c.in_ok-types.types c.in_ok-elements.elements c.in_ok-attr_groups.attr_groups c.in_ok-models.models c.sooner-3.result (cc)
    c.in_ok-types.ensures.least c.in_ok-elements.ensures.least c.in_ok-attr_groups.ensures.least c.in_ok-models.ensures.least

pub returns-clause-heights : goal.returns-clause-heights
returns-clause-heights c =
    heights-if-none c.args.parts.now c.rank_types.new.parts c.rank_elements.new.parts c.rank_attr_groups.new.parts c.rank_models.new.parts c.in_ok-types.ensures.tables c.in_ok-elements.ensures.tables c.in_ok-attr_groups.ensures.tables c.in_ok-models.ensures.tables
    c.in_ok-types.types c.in_ok-elements.elements c.in_ok-attr_groups.attr_groups c.in_ok-models.models c.sooner-3.result (cc)
    c.in_ok-types.ensures.heights c.in_ok-elements.ensures.heights c.in_ok-attr_groups.ensures.heights c.in_ok-models.ensures.heights
