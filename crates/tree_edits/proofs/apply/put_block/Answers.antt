use Rattle.std.proofs.Common.{refl, sym, ap, ◌∙◌}
use Rattle.tree_rows.specs.Forest.{count, deepest_of}
use Rattle.tree_building.specs.Building.{block}
use Rattle.tree_edits.specs.Spots.{tree_of}
use Rattle.tree_edits.proofs.Outcomes.{err_same}
use Rattle.tree_edits.proofs.Inserting.{limit_is, late_is, inserted}
use Rattle.tree_edits.proofs.Putting.{fits_room}
use Rattle.tree_edits.proofs.apply.put_block.Goals as goal

pub returns-in_err-fit-clause-err : goal.returns-in_err-fit-clause-err
returns-in_err-fit-clause-err c =
    let refuses = rw c.deref.ensures.value at c.in_err-fit.ensures.err in
    let j = c.in_ok-judged.ensures in
    err_same c.from_residual-in_err-fit.result c.in_err-fit.field-0.0 _ c.from_residual-in_err-fit.ensures.1
    (λ parent index. limit_is (tree_of c.args.rows.now.items c.args.next_free) parent index c.args.scope.now c.args.items.now c.args.spot.depth c.in_ok-judged.judged.names
    (block c.args.scope.now c.args.items.now) c.in_err-fit.field-0.0 j.names c.in_ok-early.ensures.ok refl
    (refuses parent index (block c.args.scope.now c.args.items.now) (sym j.nodes) (sym j.depth)))

pub returns-in_err-late-clause-err : goal.returns-in_err-late-clause-err
returns-in_err-late-clause-err c =
    let room = rw c.deref.ensures.value at c.in_ok-fit.ensures.ok in
    let j = c.in_ok-judged.ensures in
    err_same c.from_residual-in_err-late.result c.in_err-late.field-0.0 _ c.from_residual-in_err-late.ensures.1
    (λ parent index. late_is c.args.rows.now.items c.args.next_free parent index c.args.scope.now c.args.items.now c.args.spot.depth
    c.in_ok-judged.judged.names c.in_err-late.field-0.0 c.in_ok-judged.judged.nodes c.in_ok-judged.judged.depth c.requires.sound.whole room (sym j.nodes) (sym j.depth)
    j.names c.in_ok-early.ensures.ok c.in_err-late.ensures.err)

pub put_fitting-requires-clause-fits : goal.put_fitting-requires-clause-fits
put_fitting-requires-clause-fits c =
    let room = rw c.deref.ensures.value at c.in_ok-fit.ensures.ok in
    let j = c.in_ok-judged.ensures in
    let is = c.in_ok-new.ensures.is_block in
    fits_room c.args.rows.now.items c.in_ok-new.new.items c.args.next_free c.in_ok-judged.judged.nodes c.args.spot.depth c.in_ok-judged.judged.depth
    c.in_ok-new.ensures.whole room (ap count is ∙ sym j.nodes) (ap (deepest_of 1) is ∙ sym j.depth)

pub returns-clause-ok : goal.returns-clause-ok
returns-clause-ok c =
    λ parent index spot. inserted c.args.rows.now.items c.in_ok-new.new.items c.put_fitting.new.rows.items c.args.next_free c.in_ok-next.next parent index
    c.args.scope.now c.args.items.now c.args.spot.depth c.in_ok-judged.judged.names c.in_ok-judged.ensures.names c.in_ok-early.ensures.ok c.in_ok-late.ensures.ok
    c.in_ok-new.ensures.is_block (c.in_ok-next.ensures.ok parent index spot)
