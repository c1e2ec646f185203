use Rattle.tree_edits.proofs.ElementChanges.{cannot_change, no_element, place_of_element}
use Rattle.tree_edits.proofs.places.element_place.Goals as goal

pub returns-in_default-clause-err : goal.returns-in_default-clause-err
returns-in_default-clause-err c =
    let past = rw c.in_default.is at c.get.ensures.lookup in
    cannot_change c.args.rows.now c.args.node c.place_of-place.result c.requires.whole c.place_of-place.ensures past.3

pub returns-in-Chars-clause-err : goal.returns-in-Chars-clause-err
returns-in-Chars-clause-err c =
    let there = rw c.in-Some.is at c.get.ensures.lookup in
    no_element c.args.rows.now c.args.node c.place_of-place.result c.in-Some.row.now c.in-Chars.field-0 c.requires.whole c.place_of-place.ensures there.3.0 there.1 c.in-Chars.is

pub returns-in-Element-clause-ok : goal.returns-in-Element-clause-ok
returns-in-Element-clause-ok c =
    let there = rw c.in-Some.is at c.get.ensures.lookup in
    place_of_element c.args.rows.now c.args.node c.place_of-place.result c.in-Some.row.now c.in-Element.field-0 c.requires c.place_of-place.ensures there.3.0 there.1 c.in-Element.is
