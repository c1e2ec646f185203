use Rattle.tree_edits.specs.declared.edit.EditError.TheVariants.{Memory}
use Rattle.tree_edits.proofs.Outcomes.{err_same, err_map}
use Rattle.doc_edits.proofs.Outcomes.{ok_all}
use Rattle.doc_edits.proofs.Preparing.{part_made, insert_refused, insert_misplaced}
use Rattle.doc_edits.proofs.preparation.insertable.Goals as goal

pub returns-in_err-place_here-clause-err : goal.returns-in_err-place_here-clause-err
returns-in_err-place_here-clause-err c =
    err_same c.from_residual.result c.in_err-place_here.field-0.0 _ c.from_residual.ensures.1
    (λ d z. insert_misplaced d c.args.parent c.args.index c.args.items.now c.in_err-place_here.field-0.0 (c.in_err-place_here.ensures.err c.args.names.now d z))

pub returns-in_err-scope-clause-err : goal.returns-in_err-scope-clause-err
returns-in_err-scope-clause-err c = err_same c.from_residual-in_err-scope.result Memory _ c.from_residual-in_err-scope.ensures.1 (λ d z. tt)

pub block_part-requires-clause-stands : goal.block_part-requires-clause-stands
block_part-requires-clause-stands c = let s = c.requires.stands in (c.args.names.now, s.0, s.1)

pub returns-clause-ok : goal.returns-clause-ok
returns-clause-ok c =
    ok_all c.block_part.result _ _ _ _ c.block_part.ensures.part c.block_part.ensures.ok c.block_part.ensures.room (λ part is makes room d z.
    let scope = c.in_ok-scope.ensures d z in
    part_made d c.args.parent c.args.index c.args.items.now part (c.in_ok-place_here.ensures.ok c.args.names.now d z)
    (rw scope at (makes c.args.names.now d c.args.index z)) (room c.args.names.now d z) (rw scope at is))

pub returns-clause-err : goal.returns-clause-err
returns-clause-err c =
    err_map c.block_part.result _ _ c.block_part.ensures.err (λ e why d z.
    let scope = c.in_ok-scope.ensures d z in
    insert_refused d c.args.parent c.args.index c.args.items.now e (c.in_ok-place_here.ensures.ok c.args.names.now d z) (rw scope at (why c.args.names.now d c.args.index z)))
