use Rattle.std.proofs.Common.{◌∙◌, rules}
use Rattle.std.proofs.lemmas.Iterator.Consumers.{count_from_yields_List, YieldsList-at, YieldsList-from_filter}
use Rattle.std.proofs.lemmas.Iterator.Splits.{YieldsList-from_slice_split}
use Rattle.xs_names.specs.WhiteSpace.{is_item, is_space, to_space}
use Rattle.xs_names.proofs.Again.{item_by_length, items_counted}
use Rattle.xs_names.proofs.handling.count_items.Goals as goal

pub returns : goal.returns
returns c =
    count_from_yields_List _ _ c.count.ensures.ran
    (YieldsList-from_filter _ is_item
    (YieldsList-at c.filter.ensures.source
    (YieldsList-from_slice_split _ (λ b. is_space (to_space b)) c.args.text.now (c.split.ensures.rest ∙ c.as_bytes.ensures.value) c.split.ensures.done c.split.ensures.closure (λ x b q k. search rules)))
    c.filter.ensures.closure
    (λ x b q k. search (rules, item_by_length)))
    ∙ items_counted c.args.text.now
