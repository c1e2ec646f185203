use Rattle.std.proofs.Common.{refl}
use Rattle.tree_edits.proofs.Outcomes.{err_same}
use Rattle.doc_edits.proofs.Placing.{child_there}
use Rattle.doc_edits.proofs.preparation.prepare_removal.Goals as goal

pub returns-in_err-child_here-clause-err : goal.returns-in_err-child_here-clause-err
returns-in_err-child_here-clause-err c =
    err_same c.from_residual.result c.in_err-child_here.field-0.0 _ c.from_residual.ensures.1 c.in_err-child_here.ensures.err

pub returns-clause-ok : goal.returns-clause-ok
returns-clause-ok c = λ t d z. record { makes = child_there t c.args.doc.now d z c.args.node c.in_ok-child_here.ensures.ok; can = c.in_ok-child_here.ensures.ok; names = refl; is_of = refl; called = tt }
