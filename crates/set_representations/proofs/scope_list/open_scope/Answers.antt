use Rattle.std.proofs.Common.{rules, ◌≡◌, ◌∷◌, sym, subst, ◌∙◌}
use Rattle.set_representations.specs.Scopes.{bound}
use Rattle.set_representations.specs.inside.Building.{opened_place, scope_at, IsOpened}
use Rattle.set_representations.proofs.OpenLaws.{no-bindings, some-bindings, open-none, place-none, open-some, place-some}
use Rattle.set_representations.proofs.scope_list.open_scope.Goals as goal

pub returns-then-is_empty-clause-opened : goal.returns-then-is_empty-clause-opened
returns-then-is_empty-clause-opened c = λ base before is.
    open-none base before c.args.shape.now c.args.names.now c.args.opened.now c.args.scopes.now is
    (no-bindings c.args.shape.now.bindings (sym c.is_empty.ensures ∙ c.if-is_empty.true))

pub returns-then-is_empty-clause-place : goal.returns-then-is_empty-clause-place
returns-then-is_empty-clause-place c = λ base before is.
    c.place_of-above.ensures ∙ place-none base before c.args.shape.now c.args.names.now c.args.opened.now c.args.scopes.now is
    (no-bindings c.args.shape.now.bindings (sym c.is_empty.ensures ∙ c.if-is_empty.true))

pub returns-clause-opened : goal.returns-clause-opened
returns-clause-opened c = λ base before is.
    let shape = c.args.shape.now in
    let scopes = c.args.scopes.now in
    let u = c.bind_all.new.names in
    let some = some-bindings shape.bindings (sym c.is_empty.ensures ∙ c.if-is_empty.false) in
    let same : c.as_slice.result.now ≡ scopes = search rules in
    let own : c.as_slice-2.result.now ≡ shape.bindings = search rules in
    let above : c.in_ok-scope.scope ≡ scope_at scopes (opened_place c.args.opened.now shape.above) =
    c.in_ok-scope.ensures ∙ (λ j. scope_at (same j) (c.place_of-above.ensures j)) in
    subst (IsOpened u base (shape ∷ before) c.put.new.self) (sym c.in_ok-push.ensures.ok)
    (open-some base before shape c.args.names.now c.args.opened.now scopes is u c.put.new.self c.len-place.result c.bind_all.new.scope
    c.in_ok-bind_all.ensures.grown some c.len-place.ensures
    (λ later h. c.in_ok-bind_all.ensures.bound later h ∙ (λ j. bound later (own j) (above j)))
    c.in_ok-put.ensures)

pub returns-clause-place : goal.returns-clause-place
returns-clause-place c = λ base before is.
    c.len-place.ensures ∙ place-some base before c.args.shape.now c.args.names.now c.args.opened.now c.args.scopes.now is
    (some-bindings c.args.shape.now.bindings (sym c.is_empty.ensures ∙ c.if-is_empty.false))
