use Rattle.tree_edits.proofs.Changing.{cannot_reword, not_text, reworded}
use Rattle.tree_edits.proofs.places.text_place.Goals as goal

pub returns-in_default-clause-err : goal.returns-in_default-clause-err
returns-in_default-clause-err c =
    let past = rw c.in_default.is at c.get.ensures.lookup in
    cannot_reword c.args.rows.now c.args.node c.place_of-place.result c.requires.whole c.place_of-place.ensures past.3

pub returns-in-Element-clause-err : goal.returns-in-Element-clause-err
returns-in-Element-clause-err c =
    let there = rw c.in-Some.is at c.get.ensures.lookup in
    not_text c.args.rows.now c.args.node c.place_of-place.result c.in-Some.row.now c.in-Element.field-0 c.requires.whole c.place_of-place.ensures there.3.0 there.1 c.in-Element.is

pub returns-in-Chars-clause-ok : goal.returns-in-Chars-clause-ok
returns-in-Chars-clause-ok c =
    let there = rw c.in-Some.is at c.get.ensures.lookup in
    record {
      within = there.3.0;
      row = c.in-Some.row.now;
      reads = there.1;
      rewords = λ changed chars is. reworded c.args.rows.now changed c.args.node c.place_of-place.result c.in-Some.row.now c.in-Chars.field-0 chars c.requires
          c.place_of-place.ensures there.3.0 there.1 c.in-Chars.is is;
    }
