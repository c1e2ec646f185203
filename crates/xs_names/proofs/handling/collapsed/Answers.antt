use Rattle.std.proofs.Common.{lit<, ap, ◌∙◌}
use Rattle.std.proofs.lemmas.Iterator.Splits.{YieldsList-from_str_split}
use Rattle.std.proofs.lemmas.Iterator.Consumers.{YieldsList-end, YieldsList-at}
use Rattle.xs_names.specs.WhiteSpace.{joined, replaced}
use Rattle.xs_names.proofs.handling.collapsed.Goals as goal

pub returns : goal.returns
returns c =
    let road = YieldsList-from_str_split 32 (replaced c.args.text.now) (lit< tt) (c.split-item-items.ensures.text ∙ c.deref.ensures ∙ c.in_ok-spaced.ensures) c.split-item-items.ensures.has_more c.split-item-items.ensures.pattern in
    let end = YieldsList-end (YieldsList-at c.into_iter-item-iterator.ensures.into_iter_gives road) c.loop-item.yielded _ c.loop-item.yielded_by _ _ c.in-None.is c.next.ensures.steps in
    c.loop-item.invariant ∙ ap joined end.0
