use Rattle.std.proofs.Common.{arith}
use Rattle.tree_edits.proofs.Spotting.{cannot_find, cannot_text, element_at, depth_is, cannot_count, spot_is}
use Rattle.tree_edits.proofs.places.spot_of.Goals as goal

pub returns-in_default-clause-err : goal.returns-in_default-clause-err
returns-in_default-clause-err c =
    let past = rw c.in_default.is at c.get.ensures.lookup in
    cannot_find c.args.rows.now c.args.parent c.args.index c.place_of-place.result c.requires.whole c.place_of-place.ensures past.3

pub returns-in-Chars-clause-err : goal.returns-in-Chars-clause-err
returns-in-Chars-clause-err c =
    let there = rw c.in-Some.is at c.get.ensures.lookup in
    cannot_text c.args.rows.now c.args.parent c.args.index c.place_of-place.result c.in-Some.row.now c.in-Chars.field-0 c.requires.whole c.place_of-place.ensures there.3.0 there.1 c.in-Chars.is

pub overflow_add-below : goal.overflow_add-below
overflow_add-below c =
    let there = rw c.in-Some.is at c.get.ensures.lookup in
    let e = element_at c.args.rows.now c.args.parent c.place_of-place.result c.in-Some.row.now c.in-Element.field-0 c.requires.whole c.place_of-place.ensures there.3.0 there.1 c.in-Element.is in
    omega (arith, depth_is c.args.rows.now c.args.parent c.place_of-place.result c.in-Some.row.now e c.requires.shallow)

pub returns-then-child_count-index-clause-err : goal.returns-then-child_count-index-clause-err
returns-then-child_count-index-clause-err c =
    let there = rw c.in-Some.is at c.get.ensures.lookup in
    let e = element_at c.args.rows.now c.args.parent c.place_of-place.result c.in-Some.row.now c.in-Element.field-0 c.requires.whole c.place_of-place.ensures there.3.0 there.1 c.in-Element.is in
    cannot_count c.args.rows.now c.args.parent c.place_of-place.result c.in-Some.row.now e c.args.index c.child_count.result (rw c.rows_behind-behind.ensures at c.child_count.ensures) c.if-child_count-index.true

pub returns-clause-ok : goal.returns-clause-ok
returns-clause-ok c =
    let there = rw c.in-Some.is at c.get.ensures.lookup in
    let e = element_at c.args.rows.now c.args.parent c.place_of-place.result c.in-Some.row.now c.in-Element.field-0 c.requires.whole c.place_of-place.ensures there.3.0 there.1 c.in-Element.is in
    spot_is c.args.rows.now c.args.parent c.place_of-place.result c.in-Some.row.now e c.args.index c.child_count.result c.child_place.result c.requires.shallow
    (rw c.rows_behind-behind.ensures at c.child_count.ensures) c.if-child_count-index.false (rw c.rows_behind-behind.ensures at c.child_place.ensures.within)
    (λ new. rw c.rows_behind-behind.ensures at (c.child_place.ensures.put new))
