use Rattle.std.proofs.Common.{refl}
use Rattle.tree_edits.specs.Edits.{names_scope}
use Rattle.tree_edits.specs.declared.edit.EditError.TheVariants.{Memory}
use Rattle.tree_edits.proofs.Inserting.{why_is, why_but_memory}
use Rattle.tree_edits.proofs.Outcomes.{err_same}
use Rattle.doc_edits.proofs.Preparing.{none_changed, set_refused, set_full, set_copied, attribute_own}
use Rattle.doc_edits.proofs.preparation.prepare_value.Goals as goal

pub returns-in_err-element_here-clause-err : goal.returns-in_err-element_here-clause-err
returns-in_err-element_here-clause-err c =
    err_same c.from_residual.result c.in_err-element_here.field-0.0 _ c.from_residual.ensures.1
    (record { why = λ d z. why_is _ c.in_err-element_here.field-0.0 ((none_changed d c.args.node c.in_err-element_here.field-0.0 (c.in_err-element_here.ensures.err c.args.names.now d z)).1 c.args.name.now c.args.value.now); same = λ never. refl })

pub returns-in_err-own-clause-err : goal.returns-in_err-own-clause-err
returns-in_err-own-clause-err c =
    err_same c.from_residual-in_err-own.result c.in_err-own.field-0.0 _ c.from_residual-in_err-own.ensures.1
    (record { why = λ d z. set_refused c.args.names.now c.args.doc.now d z c.args.node c.in_ok-element_here.ensures.ok c.args.name.now c.args.value.now c.in_err-own.field-0.0 (c.in_err-own.ensures.err d z); same = λ never. refl })

pub returns-in_err-value-clause-err : goal.returns-in_err-value-clause-err
returns-in_err-value-clause-err c =
    err_same c.from_residual-in_err-value.result Memory _ c.from_residual-in_err-value.ensures.1 (record { why = λ d z. tt; same = λ never. absurd (never refl) })

pub settable-requires-clause-namespace : goal.settable-requires-clause-namespace
settable-requires-clause-namespace c =
    let s = c.requires.stands in attribute_own (names_scope s.0 c.args.node) c.args.name.now c.in_ok-own.own (c.in_ok-own.ensures.ok s.0 s.1)

pub returns-in_err-name-clause-err : goal.returns-in_err-name-clause-err
returns-in_err-name-clause-err c =
    err_same c.from_residual-in_err-name.result c.in_err-name.field-0.0 _ c.from_residual-in_err-name.ensures.1
    (record {
      why = λ d z. why_but_memory _ c.in_err-name.field-0.0 (λ never. let q = c.in_err-name.ensures.err never in
          set_full c.args.names.now c.args.doc.now d z c.args.node c.in_ok-element_here.ensures.ok c.args.name.now c.args.value.now c.in_ok-own.own c.in_err-name.field-0.0
          (c.in_ok-own.ensures.ok d z) q.1 (q.2 d z));
      same = λ never. (c.in_err-name.ensures.err never).0;
    })

pub returns-clause-ok : goal.returns-clause-ok
returns-clause-ok c = λ d z.
    set_copied c.args.names.now c.args.doc.now d z c.args.node c.in_ok-element_here.ensures.ok c.settable.new.names c.args.name.now c.args.value.now c.in_ok-value.value c.in_ok-own.own c.in_ok-name.name
    (c.in_ok-own.ensures.ok d z) (c.in_ok-name.ensures.ok d z) c.in_ok-value.ensures
