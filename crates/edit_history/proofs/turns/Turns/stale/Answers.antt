use Rattle.std.proofs.Common.{sym, ap, ◌∙◌}
use Rattle.edit_history.specs.declared.touch.Key.TheVariants.{Node, List as Children}
use Rattle.edit_history.proofs.Latest.{if_after}
use Rattle.edit_history.proofs.Tables.{asked, at_side, after_some}
use Rattle.edit_history.proofs.turns.Turns.stale.Goals as goal

pub returns-in_err-latest : goal.returns-in_err-latest
returns-in_err-latest c log stands =
    c.from_residual.ensures ∙ ap (if_after c.args.seen) (sym c.in_err-latest.was)
    ∙ asked c.args.self.now.touches log stands c.args.author c.args.seen c.args.keys.now c.map.result c.map-2.result c.by_others-of_node.result c.by_others-of_list.result c.max.result
    (at_side Node _ _ c.map.ensures.cases) (at_side Children _ _ c.map-2.ensures.cases) c.by_others-of_node.ensures c.by_others-of_list.ensures c.max.ensures

pub returns : goal.returns
returns c log stands =
    c.then_some.ensures ∙ after_some c.args.seen c.in_ok-latest.latest ∙ ap (if_after c.args.seen) (sym c.in_ok-latest.was)
    ∙ asked c.args.self.now.touches log stands c.args.author c.args.seen c.args.keys.now c.map.result c.map-2.result c.by_others-of_node.result c.by_others-of_list.result c.max.result
    (at_side Node _ _ c.map.ensures.cases) (at_side Children _ _ c.map-2.ensures.cases) c.by_others-of_node.ensures c.by_others-of_list.ensures c.max.ensures
