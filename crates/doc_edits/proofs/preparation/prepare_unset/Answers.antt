use Rattle.tree_edits.proofs.Inserting.{why_is}
use Rattle.tree_edits.proofs.Outcomes.{err_same}
use Rattle.doc_edits.proofs.Preparing.{none_changed, unset_refused, unset_missing, unset_prepared}
use Rattle.doc_edits.proofs.preparation.prepare_unset.Goals as goal

pub returns-in_err-element_here-clause-err : goal.returns-in_err-element_here-clause-err
returns-in_err-element_here-clause-err c =
    err_same c.from_residual.result c.in_err-element_here.field-0.0 _ c.from_residual.ensures.1
    (λ d z. why_is _ c.in_err-element_here.field-0.0 ((none_changed d c.args.node c.in_err-element_here.field-0.0 (c.in_err-element_here.ensures.err c.args.names.now d z)).2 c.args.name.now))

pub returns-in_err-own-clause-err : goal.returns-in_err-own-clause-err
returns-in_err-own-clause-err c =
    err_same c.from_residual-in_err-own.result c.in_err-own.field-0.0 _ c.from_residual-in_err-own.ensures.1
    (λ d z. unset_refused c.args.names.now c.args.doc.now d z c.args.node c.in_ok-element_here.ensures.ok c.args.name.now c.in_err-own.field-0.0 (c.in_err-own.ensures.err d z))

pub returns-in-Some-clause-ok : goal.returns-in-Some-clause-ok
returns-in-Some-clause-ok c = λ d z.
    unset_prepared c.args.names.now c.args.doc.now d z c.args.node c.in_ok-element_here.ensures.ok c.args.name.now c.in_ok-own.own c.in-Some.name (c.in_ok-own.ensures.ok d z) (c.in-Some.ensures d z)

pub returns-clause-err : goal.returns-clause-err
returns-clause-err c = λ d z.
    unset_missing c.args.names.now c.args.doc.now d z c.args.node c.in_ok-element_here.ensures.ok c.args.name.now c.in_ok-own.own (c.in_ok-own.ensures.ok d z) (c.in-None.ensures d z)
