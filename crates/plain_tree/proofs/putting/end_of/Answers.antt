use Rattle.std.proofs.Common.{◌+◌, arith}
use Rattle.std.proofs.lemmas.List.{take_rest}
use Rattle.plain_tree.proofs.Adding.{lies, depth_is, end_is}
use Rattle.plain_tree.proofs.putting.end_of.Goals as goal

pub overflow_add-result-3 : goal.overflow_add-result-3
overflow_add-result-3 c =
    let e = lies c.args.rows.now c.args.parent c.element_place-place.result c.index-rows-place.result c.requires.sound.whole c.requires.parent c.element_place-place.ensures.at c.index-rows-place.is in
    rw (← c.index-rows-place.is) (omega (arith, depth_is c.args.rows.now c.args.parent c.element_place-place.result c.index-rows-place.result e c.requires.sound.shallow))

pub returns : goal.returns
returns c =
    let e = lies c.args.rows.now c.args.parent c.element_place-place.result c.index-rows-place.result c.requires.sound.whole c.requires.parent c.element_place-place.ensures.at c.index-rows-place.is in
    rw (← c.index-rows-place.is) (end_is c.args.rows.now c.args.parent c.element_place-place.result c.index-rows-place.result e c.below_count.result
    (rw (← c.index-rows-place.is, take_rest c.args.rows.now (c.element_place-place.result + 1)) at c.below_count.ensures.count))
