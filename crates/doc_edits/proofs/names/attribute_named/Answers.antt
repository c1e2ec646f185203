use Rattle.std.proofs.Common.{sym, ap, ◌∙◌, refl}
use Rattle.tag_names.specs.Resolving.{attribute_resolved}
use Rattle.tree_edits.specs.Edits.{names_scope}
use Rattle.tree_edits.specs.Refusals.{refusal_of}
use Rattle.tree_edits.specs.declared.edit.EditError.TheVariants.{Memory}
use Rattle.tree_edits.proofs.Outcomes.{err_same}
use Rattle.doc_edits.proofs.names.attribute_named.Goals as goal

pub returns-in_err-scope-clause-err : goal.returns-in_err-scope-clause-err
returns-in_err-scope-clause-err c = err_same c.from_residual.result Memory _ c.from_residual.ensures.1 (λ d z never. absurd (never refl))

pub returns-in_err-resolved-clause-err : goal.returns-in_err-resolved-clause-err
returns-in_err-resolved-clause-err c = err_same c.from_residual-in_err-resolved.result Memory _ c.from_residual-in_err-resolved.ensures.1 (λ d z never. absurd (never refl))

pub returns-in_err-own-clause-err : goal.returns-in_err-own-clause-err
returns-in_err-own-clause-err c =
    err_same c.from_residual-in_err-own.result (refusal_of c.in_err-own.field-0.0) _ c.from_residual-in_err-own.ensures.1 (λ d z never. (
      c.in_err-own.field-0.0,
      sym (sym c.in_err-own.was ∙ c.in_ok-resolved.ensures ∙ ap (λ s. attribute_resolved s c.as_str.result.now) (c.in_ok-scope.ensures d z) ∙ ap (attribute_resolved (names_scope d c.args.node)) c.as_str.ensures),
      refl,
    ))

pub returns-clause-ok : goal.returns-clause-ok
returns-clause-ok c = λ d z.
    sym (sym c.in_ok-own.was ∙ c.in_ok-resolved.ensures ∙ ap (λ s. attribute_resolved s c.as_str.result.now) (c.in_ok-scope.ensures d z) ∙ ap (attribute_resolved (names_scope d c.args.node)) c.as_str.ensures)
