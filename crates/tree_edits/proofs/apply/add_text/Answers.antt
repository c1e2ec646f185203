use Rattle.std.proofs.Common.{refl, sym, ap, ◌∙◌}
use Rattle.tree_rows.specs.Forest.{text, none, count, deepest_of}
use Rattle.tree_edits.specs.Edits.{put_within}
use Rattle.tree_edits.specs.Spots.{tree_of}
use Rattle.tree_edits.proofs.Outcomes.{err_same}
use Rattle.tree_edits.proofs.Putting.{text_whole, fits_room}
use Rattle.tree_edits.proofs.Inserting.{text_at, why_of}
use Rattle.tree_edits.proofs.apply.add_text.Goals as goal

pub returns-in_err-spot-clause-err : goal.returns-in_err-spot-clause-err
returns-in_err-spot-clause-err c =
    let refuses = rw c.deref.ensures.value at c.in_err-spot.ensures.err in
    err_same c.from_residual.result c.in_err-spot.field-0.0 _ c.from_residual.ensures.1
    (refuses (put_within (tree_of c.args.rows.now.items c.args.next_free) c.args.parent c.args.index (text 0 c.args.text.now none)))

pub returns-in_err-fit-clause-err : goal.returns-in_err-fit-clause-err
returns-in_err-fit-clause-err c =
    let spot = rw c.deref.ensures.value at c.in_ok-spot.ensures.ok in
    let refuses = rw c.deref-2.ensures.value at c.in_err-fit.ensures.err in
    err_same c.from_residual-in_err-fit.result c.in_err-fit.field-0.0 _ c.from_residual-in_err-fit.ensures.1
    (why_of _ _ c.in_err-fit.field-0.0
    (sym (spot.puts (put_within (tree_of c.args.rows.now.items c.args.next_free) c.args.parent c.args.index (text 0 c.args.text.now none))))
    (refuses c.args.parent c.args.index (text 0 c.args.text.now none) refl refl))

pub put_fitting-requires-clause-fits : goal.put_fitting-requires-clause-fits
put_fitting-requires-clause-fits c =
    let room = rw c.deref-2.ensures.value at c.in_ok-fit.ensures.ok in
    let whole = text_whole c.args.text.now c.in_ok-new.new.items c.in_ok-new.ensures in
    fits_room c.args.rows.now.items c.in_ok-new.new.items c.args.next_free 1 c.in_ok-spot.spot.depth 0 whole.1 room (ap count whole.0) (ap (deepest_of 1) whole.0)

pub returns-clause-ok : goal.returns-clause-ok
returns-clause-ok c =
    let spot = rw c.deref.ensures.value at c.in_ok-spot.ensures.ok in
    let whole = text_whole c.args.text.now c.in_ok-new.new.items c.in_ok-new.ensures in
    sym (text_at c.args.rows.now.items c.in_ok-new.new.items c.args.next_free c.args.parent c.args.index c.in_ok-spot.spot c.args.text.now spot whole.0)
    ∙ (c.in_ok-free.ensures.ok c.args.parent c.args.index spot).puts

pub returns-clause-sound : goal.returns-clause-sound
returns-clause-sound c =
    let spot = rw c.deref.ensures.value at c.in_ok-spot.ensures.ok in
    (c.in_ok-free.ensures.ok c.args.parent c.args.index spot).sound
