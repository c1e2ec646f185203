use Rattle.std.proofs.Common.{◌≡◌, Ok, Err, sym, ap, ◌∙◌}
use Rattle.std.specs.List.{position}
use Rattle.tree_rows.specs.Naming.{same_name}
use Rattle.tree_rows.specs.declared.row.Attribute.{Attribute}
use Rattle.tree_rows.specs.Rows.{siblings}
use Rattle.tag_names.specs.Resolving.{attribute_resolved}
use Rattle.tag_names.specs.Scopes.{first_scope}
use Rattle.tree_edits.specs.Edits.{scope_in, unset_attribute}
use Rattle.tree_edits.specs.Refusals.{refusal_of}
use Rattle.tree_edits.specs.Spots.{tree_of}
use Rattle.tree_edits.proofs.ElementChanges.{unset_refused, unset_none, unset_written}
use Rattle.tree_edits.proofs.Outcomes.{err_same}
use Rattle.tree_edits.proofs.elements.unset_attribute.Goals as goal

pub returns-in_err-place-clause-err : goal.returns-in_err-place-clause-err
returns-in_err-place-clause-err c =
    let refuses = rw c.deref.ensures.value at c.in_err-place.ensures.err in
    err_same c.from_residual.result c.in_err-place.field-0.0 _ c.from_residual.ensures.1
    (λ next. refuses (unset_attribute (tree_of c.args.rows.now.items next) c.args.node c.args.name.now))

pub returns-in_err-own-clause-err : goal.returns-in_err-own-clause-err
returns-in_err-own-clause-err c =
    let p = rw c.deref.ensures.value at c.in_ok-place.ensures.ok in
    let scope = (rw c.deref-2.ensures.value at c.in_ok-scope.ensures) p.row p.reads ∙ sym (p.scoped first_scope) in
    let resolved : Err c.in_err-own.field-0.0 ≡ attribute_resolved (scope_in c.args.node first_scope (siblings c.args.rows.now.items 1)) c.args.name.now =
    sym c.in_err-own.was ∙ c.in_ok-resolved.ensures ∙ ap (λ s. attribute_resolved s c.as_str.result.now) scope ∙ ap (attribute_resolved _) c.as_str.ensures in
    err_same c.from_residual-in_err-own.result (refusal_of c.in_err-own.field-0.0) _ c.from_residual-in_err-own.ensures.1
    (unset_refused c.args.rows.now.items c.args.node c.in_ok-place.place p c.args.name.now c.in_err-own.field-0.0 resolved)

pub returns-in_default-clause-err : goal.returns-in_default-clause-err
returns-in_default-clause-err c =
    let p = rw c.deref.ensures.value at c.in_ok-place.ensures.ok in
    let scope = (rw c.deref-2.ensures.value at c.in_ok-scope.ensures) p.row p.reads ∙ sym (p.scoped first_scope) in
    let resolved : Ok c.in_ok-own.own ≡ attribute_resolved (scope_in c.args.node first_scope (siblings c.args.rows.now.items 1)) c.args.name.now =
    sym c.in_ok-own.was ∙ c.in_ok-resolved.ensures ∙ ap (λ s. attribute_resolved s c.as_str.result.now) scope ∙ ap (attribute_resolved _) c.as_str.ensures in
    let there = sym c.in_default.is ∙ c.attribute_place.ensures ∙ ap (position (λ (a : Attribute). same_name a.name c.in_ok-own.own)) c.as_slice.ensures in
    unset_none c.args.rows.now.items c.args.node c.in_ok-place.place p c.args.name.now c.in_ok-own.own c.index.result.now resolved c.index.ensures there

pub returns-clause-ok : goal.returns-clause-ok
returns-clause-ok c =
    let p = rw c.deref.ensures.value at c.in_ok-place.ensures.ok in
    let scope = (rw c.deref-2.ensures.value at c.in_ok-scope.ensures) p.row p.reads ∙ sym (p.scoped first_scope) in
    let resolved : Ok c.in_ok-own.own ≡ attribute_resolved (scope_in c.args.node first_scope (siblings c.args.rows.now.items 1)) c.args.name.now =
    sym c.in_ok-own.was ∙ c.in_ok-resolved.ensures ∙ ap (λ s. attribute_resolved s c.as_str.result.now) scope ∙ ap (attribute_resolved _) c.as_str.ensures in
    let there = sym c.in-Some.is ∙ c.attribute_place.ensures ∙ ap (position (λ (a : Attribute). same_name a.name c.in_ok-own.own)) c.as_slice.ensures in
    unset_written c.args.rows.now.items c.args.node c.in_ok-place.place p c.args.name.now c.in_ok-own.own c.in-Some.at c.index_mut.result.now c.index.result.now
    c.take_out.new.row resolved c.index_mut.ensures.value c.index.ensures there c.take_out.ensures
