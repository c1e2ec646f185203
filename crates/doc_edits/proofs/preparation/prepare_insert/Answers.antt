use Rattle.std.proofs.Common.{refl}
use Rattle.xs_names.proofs.GrownLaws.{Grown-refl}
use Rattle.tree_edits.specs.declared.edit.EditError.TheVariants.{Memory}
use Rattle.tree_edits.proofs.Outcomes.{err_same}
use Rattle.doc_edits.proofs.Preparing.{insert_prepared}
use Rattle.doc_edits.proofs.preparation.prepare_insert.Goals as goal

pub returns-in_err-part-clause-err : goal.returns-in_err-part-clause-err
returns-in_err-part-clause-err c =
    err_same c.from_residual.result c.in_err-part.field-0.0 _ c.from_residual.ensures.1 (record { why = c.in_err-part.ensures.err; same = λ never. refl })

pub returns-in_err-part-clause-grown : goal.returns-in_err-part-clause-grown
returns-in_err-part-clause-grown c = Grown-refl c.args.names.now

pub returns-in_err-part-clause-sound : goal.returns-in_err-part-clause-sound
returns-in_err-part-clause-sound c = c.requires.stands.1.table

pub returns-in_err-add_names-clause-err : goal.returns-in_err-add_names-clause-err
returns-in_err-add_names-clause-err c =
    err_same c.from_residual-in_err-add_names.result Memory _ c.from_residual-in_err-add_names.ensures.1 (record { why = λ d z. tt; same = λ never. absurd (never refl) })

pub returns-clause-ok : goal.returns-clause-ok
returns-clause-ok c = λ d z.
    insert_prepared c.args.names.now c.add_names.new.names c.args.doc.now d c.args.parent c.args.index c.args.items.now c.in_ok-part.part (c.in_ok-part.ensures.ok d z) c.in_ok-add_names.ensures.table
