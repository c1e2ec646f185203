use Rattle.std.proofs.Common.{refl}
use Rattle.tree_rows.specs.Forest.{none, text}
use Rattle.tree_edits.specs.declared.edit.EditError.TheVariants.{Memory}
use Rattle.tree_edits.proofs.Outcomes.{err_same}
use Rattle.doc_edits.proofs.Placing.{room_for}
use Rattle.doc_edits.proofs.Preparing.{text_misplaced, text_refused, text_copied}
use Rattle.doc_edits.proofs.preparation.prepare_text.Goals as goal

pub returns-in_err-place_here-clause-err : goal.returns-in_err-place_here-clause-err
returns-in_err-place_here-clause-err c =
    err_same c.from_residual.result c.in_err-place_here.field-0.0 _ c.from_residual.ensures.1
    (λ t d z. text_misplaced d c.args.parent c.args.index c.args.text.now c.in_err-place_here.field-0.0 (c.in_err-place_here.ensures.err t d z))

pub returns-in_err-fit-clause-err : goal.returns-in_err-fit-clause-err
returns-in_err-fit-clause-err c =
    err_same c.from_residual-in_err-fit.result c.in_err-fit.field-0.0 _ c.from_residual-in_err-fit.ensures.1
    (λ t d z. text_refused d c.args.parent c.args.index c.args.text.now c.in_err-fit.field-0.0 (c.in_ok-place_here.ensures.ok t d z)
    (c.in_err-fit.ensures.err t d z c.args.index (text 0 c.args.text.now none) refl refl))

pub returns-in_err-text-clause-err : goal.returns-in_err-text-clause-err
returns-in_err-text-clause-err c = err_same c.from_residual-in_err-text.result Memory _ c.from_residual-in_err-text.ensures.1 (λ t d z. tt)

pub returns-clause-ok : goal.returns-clause-ok
returns-clause-ok c = λ t d z.
    text_copied t c.args.doc.now d c.args.parent c.args.index c.args.text.now c.in_ok-text.text (c.in_ok-place_here.ensures.ok t d z)
    (room_for d c.args.parent 1 0 (text 0 c.args.text.now none) (c.in_ok-fit.ensures.ok t d z) refl refl) c.in_ok-text.ensures
