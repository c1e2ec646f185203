use Rattle.tree_edits.specs.declared.edit.EditError.TheVariants.{Memory}
use Rattle.tree_edits.proofs.Inserting.{why_is}
use Rattle.tree_edits.proofs.Outcomes.{err_same}
use Rattle.doc_edits.proofs.Preparing.{chars_prepared}
use Rattle.doc_edits.proofs.preparation.prepare_chars.Goals as goal

pub returns-in_err-text_here-clause-err : goal.returns-in_err-text_here-clause-err
returns-in_err-text_here-clause-err c =
    err_same c.from_residual.result c.in_err-text_here.field-0.0 _ c.from_residual.ensures.1
    (λ t d z. why_is _ c.in_err-text_here.field-0.0 (c.in_err-text_here.ensures.err t d c.args.text.now z))

pub returns-in_err-text-clause-err : goal.returns-in_err-text-clause-err
returns-in_err-text-clause-err c = err_same c.from_residual-in_err-text.result Memory _ c.from_residual-in_err-text.ensures.1 (λ t d z. tt)

pub returns-clause-ok : goal.returns-clause-ok
returns-clause-ok c = λ t d z. chars_prepared t c.args.doc.now d z c.args.node c.args.text.now c.in_ok-text.text c.in_ok-text_here.ensures.ok c.in_ok-text.ensures
