use Rattle.std.proofs.Common.{refl}
use Rattle.xs_names.proofs.GrownLaws.{Grown-refl}
use Rattle.tree_edits.proofs.Outcomes.{err_same}
use Rattle.tree_edits.specs.declared.edit.EditError.TheVariants.{Memory}
use Rattle.doc_edits.proofs.Naming.{set_there, set_more, full_here, few_here}
use Rattle.doc_edits.proofs.preparation.settable.Goals as goal

pub returns-in-Some-clause-ok : goal.returns-in-Some-clause-ok
returns-in-Some-clause-ok c = λ d z. set_there c.args.names.now c.args.doc.now d z c.args.node c.requires.element c.args.own.now c.in-Some.name (c.in-Some.ensures d z)

pub returns-in-Some-clause-grown : goal.returns-in-Some-clause-grown
returns-in-Some-clause-grown c = Grown-refl c.args.names.now

pub returns-in-Some-clause-sound : goal.returns-in-Some-clause-sound
returns-in-Some-clause-sound c = c.requires.stands.1.table

pub one_more-requires : goal.one_more-requires
one_more-requires c = let s = c.requires.stands in few_here c.args.names.now c.args.doc.now s.0 s.1 c.args.node c.requires.element

pub returns-in_err-one_more-in-None-clause-err : goal.returns-in_err-one_more-in-None-clause-err
returns-in_err-one_more-in-None-clause-err c =
    let w = c.in_err-one_more-in-None.ensures.err in
    err_same c.from_residual.result c.in_err-one_more-in-None.field-0.0 _ c.from_residual.ensures.1
    (λ never. (refl, w.0, λ d z. full_here c.args.names.now c.args.doc.now d z c.args.node c.requires.element c.args.own.now (c.in-None.ensures d z) w.1))

pub returns-in_err-one_more-in-None-clause-grown : goal.returns-in_err-one_more-in-None-clause-grown
returns-in_err-one_more-in-None-clause-grown c = Grown-refl c.args.names.now

pub returns-in_err-one_more-in-None-clause-sound : goal.returns-in_err-one_more-in-None-clause-sound
returns-in_err-one_more-in-None-clause-sound c = c.requires.stands.1.table

pub returns-in_err-name-in-None-clause-err : goal.returns-in_err-name-in-None-clause-err
returns-in_err-name-in-None-clause-err c =
    err_same c.from_residual-in_err-name-in-None.result Memory _ c.from_residual-in_err-name-in-None.ensures.1 (λ never. absurd (never refl))

pub returns-in_ok-name-in-None-clause-ok : goal.returns-in_ok-name-in-None-clause-ok
returns-in_ok-name-in-None-clause-ok c = λ d z.
    set_more c.args.names.now c.args.doc.now d z c.args.node c.requires.element c.add_name.new.names c.args.own.now c.in_ok-name-in-None.name
    c.requires.namespace c.add_name.ensures.sound c.in_ok-one_more-in-None.ensures.ok c.in_ok-name-in-None.ensures.table c.in_ok-name-in-None.ensures.number
