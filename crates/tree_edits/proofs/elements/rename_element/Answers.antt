use Rattle.std.proofs.Common.{◌≡◌, Ok, Err, sym, ap, ◌∙◌}
use Rattle.tree_rows.specs.Rows.{siblings}
use Rattle.tag_names.specs.Resolving.{element_resolved}
use Rattle.tag_names.specs.Scopes.{first_scope}
use Rattle.tree_edits.specs.Edits.{scope_in, rename}
use Rattle.tree_edits.specs.Refusals.{refusal_of}
use Rattle.tree_edits.specs.Spots.{tree_of}
use Rattle.tree_edits.proofs.ElementChanges.{rename_refused, rename_made}
use Rattle.tree_edits.proofs.Outcomes.{err_same}
use Rattle.tree_edits.proofs.elements.rename_element.Goals as goal

pub returns-in_err-place-clause-err : goal.returns-in_err-place-clause-err
returns-in_err-place-clause-err c =
    let refuses = rw c.deref.ensures.value at c.in_err-place.ensures.err in
    err_same c.from_residual.result c.in_err-place.field-0.0 _ c.from_residual.ensures.1
    (λ next. refuses (rename (tree_of c.args.rows.now.items next) c.args.node c.args.name.now))

pub returns-in_err-own-clause-err : goal.returns-in_err-own-clause-err
returns-in_err-own-clause-err c =
    let p = rw c.deref.ensures.value at c.in_ok-place.ensures.ok in
    let scope = (rw c.deref-2.ensures.value at c.in_ok-scope.ensures) p.row p.reads ∙ sym (p.scoped first_scope) in
    let resolved : Err c.in_err-own.field-0.0 ≡ element_resolved (scope_in c.args.node first_scope (siblings c.args.rows.now.items 1)) c.args.name.now =
    sym c.in_err-own.was ∙ c.in_ok-resolved.ensures ∙ ap (λ s. element_resolved s c.as_str.result.now) scope ∙ ap (element_resolved _) c.as_str.ensures in
    err_same c.from_residual-in_err-own.result (refusal_of c.in_err-own.field-0.0) _ c.from_residual-in_err-own.ensures.1
    (rename_refused c.args.rows.now.items c.args.node c.in_ok-place.place p c.args.name.now c.in_err-own.field-0.0 resolved)

pub returns-clause-ok : goal.returns-clause-ok
returns-clause-ok c =
    let p = rw c.deref.ensures.value at c.in_ok-place.ensures.ok in
    let scope = (rw c.deref-2.ensures.value at c.in_ok-scope.ensures) p.row p.reads ∙ sym (p.scoped first_scope) in
    let resolved : Ok c.in_ok-own.own ≡ element_resolved (scope_in c.args.node first_scope (siblings c.args.rows.now.items 1)) c.args.name.now =
    sym c.in_ok-own.was ∙ c.in_ok-resolved.ensures ∙ ap (λ s. element_resolved s c.as_str.result.now) scope ∙ ap (element_resolved _) c.as_str.ensures in
    rename_made c.args.rows.now.items c.args.node c.in_ok-place.place p c.args.name.now c.write_name.new.rows.items c.in_ok-own.own resolved
    (c.write_name.ensures p.row p.reads)
