use Rattle.std.proofs.Common.{take, drop, ap, ◌∙◌}
use Rattle.forest_keys.proofs.Stepping.{parted_by}
use Rattle.forest_keys.proofs.entry_siblings.by_first.Goals as goal

pub returns : goal.returns
returns c =
    let rest = c.in_ok-own.rest.now in
    let at = c.split_at.ensures in
    parted_by c.args.entries.now rest (record { own = c.in_ok-own.own; below = c.split_at.result.0; behind = c.split_at.result.1 }) c.in_ok-own.ensures.cases.0
    (at.front ∙ ap (λ n. take n rest) c.min-count.ensures) (at.back ∙ ap (λ n. drop n rest) c.min-count.ensures)
