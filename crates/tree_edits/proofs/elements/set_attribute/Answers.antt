use Rattle.std.proofs.Common.{◌≡◌, Ok, Err, sym, ap, ◌∙◌}
use Rattle.std.proofs.lemmas.Result.{on_ok_weaker, on_err_weaker}
use Rattle.tree_rows.specs.Rows.{siblings}
use Rattle.tag_names.specs.Resolving.{attribute_resolved}
use Rattle.tag_names.specs.Scopes.{first_scope}
use Rattle.tree_edits.specs.Edits.{scope_in, set_attribute}
use Rattle.tree_edits.specs.Refusals.{refusal_of}
use Rattle.tree_edits.specs.Spots.{tree_of}
use Rattle.tree_edits.proofs.ElementChanges.{set_refused, set_written, set_past, row_kept}
use Rattle.tree_edits.proofs.Outcomes.{err_same, err_map}
use Rattle.tree_edits.proofs.elements.set_attribute.Goals as goal

pub returns-in_err-place-clause-err : goal.returns-in_err-place-clause-err
returns-in_err-place-clause-err c =
    let refuses = rw c.deref.ensures.value at c.in_err-place.ensures.err in
    err_same c.from_residual.result c.in_err-place.field-0.0 _ c.from_residual.ensures.1
    (λ next. refuses (set_attribute (tree_of c.args.rows.now.items next) c.args.node c.args.name.now c.args.value.now))

pub returns-in_err-own-clause-err : goal.returns-in_err-own-clause-err
returns-in_err-own-clause-err c =
    let p = rw c.deref.ensures.value at c.in_ok-place.ensures.ok in
    let scope = (rw c.deref-2.ensures.value at c.in_ok-scope.ensures) p.row p.reads ∙ sym (p.scoped first_scope) in
    let resolved : Err c.in_err-own.field-0.0 ≡ attribute_resolved (scope_in c.args.node first_scope (siblings c.args.rows.now.items 1)) c.args.name.now =
    sym c.in_err-own.was ∙ c.in_ok-resolved.ensures ∙ ap (λ s. attribute_resolved s c.as_str.result.now) scope ∙ ap (attribute_resolved _) c.as_str.ensures in
    err_same c.from_residual-in_err-own.result (refusal_of c.in_err-own.field-0.0) _ c.from_residual-in_err-own.ensures.1
    (set_refused c.args.rows.now.items c.args.node c.in_ok-place.place p c.args.name.now c.args.value.now c.in_err-own.field-0.0 resolved)

pub returns-clause-ok : goal.returns-clause-ok
returns-clause-ok c =
    let p = rw c.deref.ensures.value at c.in_ok-place.ensures.ok in
    let scope = (rw c.deref-2.ensures.value at c.in_ok-scope.ensures) p.row p.reads ∙ sym (p.scoped first_scope) in
    let resolved : Ok c.in_ok-own.own ≡ attribute_resolved (scope_in c.args.node first_scope (siblings c.args.rows.now.items 1)) c.args.name.now =
    sym c.in_ok-own.was ∙ c.in_ok-resolved.ensures ∙ ap (λ s. attribute_resolved s c.as_str.result.now) scope ∙ ap (attribute_resolved _) c.as_str.ensures in
    on_ok_weaker c.write_attribute.result
    (set_written c.args.rows.now.items c.args.node c.in_ok-place.place p c.args.name.now c.args.value.now c.in_ok-value.value c.in_ok-own.own c.index_mut.result.now
    c.write_attribute.new.row resolved c.index_mut.ensures.value c.in_ok-value.ensures)
    c.write_attribute.ensures.ok

pub returns-clause-err : goal.returns-clause-err
returns-clause-err c =
    let p = rw c.deref.ensures.value at c.in_ok-place.ensures.ok in
    let scope = (rw c.deref-2.ensures.value at c.in_ok-scope.ensures) p.row p.reads ∙ sym (p.scoped first_scope) in
    let resolved : Ok c.in_ok-own.own ≡ attribute_resolved (scope_in c.args.node first_scope (siblings c.args.rows.now.items 1)) c.args.name.now =
    sym c.in_ok-own.was ∙ c.in_ok-resolved.ensures ∙ ap (λ s. attribute_resolved s c.as_str.result.now) scope ∙ ap (attribute_resolved _) c.as_str.ensures in
    err_map c.write_attribute.result _ _ c.write_attribute.ensures.err
    (λ error w. set_past c.args.rows.now.items c.args.node c.in_ok-place.place p c.args.name.now c.args.value.now c.in_ok-own.own c.index_mut.result.now error resolved
    c.index_mut.ensures.value w)

pub returns-clause-kept : goal.returns-clause-kept
returns-clause-kept c =
    on_err_weaker c.write_attribute.result
    (row_kept c.args.rows.now.items c.in_ok-place.place c.index_mut.result.now c.write_attribute.new.row c.index_mut.ensures.value)
    c.write_attribute.ensures.kept
