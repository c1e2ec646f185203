use Rattle.std.proofs.Common.{arith}
use Rattle.tree_edits.proofs.Changing.{cannot_remove, root_stays, node_at, below_counted, removed}
use Rattle.tree_edits.proofs.places.span_of.Goals as goal

pub returns-in_default-clause-err : goal.returns-in_default-clause-err
returns-in_default-clause-err c =
    let past = rw c.in_default.is at c.get.ensures.lookup in
    cannot_remove c.args.rows.now c.args.node c.place_of-place.result c.requires.whole c.place_of-place.ensures past.3

pub returns-then-place-eq0-clause-err : goal.returns-then-place-eq0-clause-err
returns-then-place-eq0-clause-err c =
    let there = rw c.in-Some.is at c.get.ensures.lookup in
    root_stays c.args.rows.now c.args.node c.place_of-place.result c.requires.whole c.place_of-place.ensures there.3.0 c.if-place-eq0.true

pub returns-clause-ok : goal.returns-clause-ok
returns-clause-ok c =
    let there = rw c.in-Some.is at c.get.ensures.lookup in
    let counted = rw c.rows_behind.ensures at c.below_count-below.ensures.count in
    let n = node_at c.args.rows.now c.args.node c.place_of-place.result c.in-Some.row.now c.requires.whole c.place_of-place.ensures there.3.0 there.1 in
    record {
      within = below_counted c.args.rows.now c.args.node c.place_of-place.result c.in-Some.row.now c.below_count-below.result n counted;
      removes = λ changed is. removed c.args.rows.now changed c.args.node c.place_of-place.result c.in-Some.row.now c.below_count-below.result c.requires c.place_of-place.ensures
          there.3.0 (omega (arith, c.if-place-eq0.false)) there.1 counted is;
    }
