use Rattle.std.proofs.Common.{refl}
use Rattle.tree_edits.specs.declared.edit.EditError.TheVariants.{Memory}
use Rattle.tree_edits.proofs.Inserting.{why_is}
use Rattle.tree_edits.proofs.Outcomes.{err_same}
use Rattle.doc_edits.proofs.Preparing.{none_changed, rename_refused, rename_named}
use Rattle.doc_edits.proofs.preparation.prepare_name.Goals as goal

pub returns-in_err-element_here-clause-err : goal.returns-in_err-element_here-clause-err
returns-in_err-element_here-clause-err c =
    err_same c.from_residual.result c.in_err-element_here.field-0.0 _ c.from_residual.ensures.1
    (record { why = λ d z. why_is _ c.in_err-element_here.field-0.0 ((none_changed d c.args.node c.in_err-element_here.field-0.0 (c.in_err-element_here.ensures.err c.args.names.now d z)).0 c.args.name.now); same = λ never. refl })

pub returns-in_err-own-clause-err : goal.returns-in_err-own-clause-err
returns-in_err-own-clause-err c =
    err_same c.from_residual-in_err-own.result c.in_err-own.field-0.0 _ c.from_residual-in_err-own.ensures.1
    (record { why = λ d z. rename_refused c.args.names.now c.args.doc.now d z c.args.node c.in_ok-element_here.ensures.ok c.args.name.now c.in_err-own.field-0.0 (c.in_err-own.ensures.err d z); same = λ never. refl })

pub returns-in_err-name-clause-err : goal.returns-in_err-name-clause-err
returns-in_err-name-clause-err c =
    err_same c.from_residual-in_err-name.result Memory _ c.from_residual-in_err-name.ensures.1 (record { why = λ d z. tt; same = λ never. absurd (never refl) })

pub returns-clause-ok : goal.returns-clause-ok
returns-clause-ok c = λ d z.
    rename_named c.args.names.now c.args.doc.now d z c.args.node c.in_ok-element_here.ensures.ok c.add_name.new.names c.args.name.now c.in_ok-own.own c.in_ok-name.name
    (c.in_ok-own.ensures.ok d z) c.in_ok-name.ensures.number c.in_ok-name.ensures.table c.add_name.ensures.sound
