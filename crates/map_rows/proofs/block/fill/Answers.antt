use Rattle.std.proofs.Common.{◌<◌, ◌∙◌, ℕ, List, Option, Some, set, length, sym, ap, subst}
use Rattle.map_rows.proofs.Slots.{filled_more}
use Rattle.map_rows.proofs.block.fill.Goals as goal

pub loop-index-preserved : goal.loop-index-preserved
loop-index-preserved c =
    let i = c.loop-index.index in
    let within : i < length c.args.cells.now.slots = subst (λ n. i < n) (sym c.requires.len) c.loop-index-test.true in
    (c.set.ensures.0 ∙ c.loop-index.invariant.0, c.set.ensures.1 ∙ ap (λ (cs : List (Option ℕ)). set cs i (Some 0)) c.loop-index.invariant.1 ∙ filled_more (Some 0) c.args.cells.now.slots i within)
