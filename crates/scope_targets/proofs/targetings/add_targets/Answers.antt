use Rattle.std.proofs.Common.{◌++◌, ℕ, List, map, refl, sym, ap, ◌∙◌, append_assoc, append-nil}
use Rattle.path_walk.specs.inside.Walk.{reached}
use Rattle.scope_targets.specs.Found.{targeting_of}
use Rattle.scope_targets.specs.Targetings.{targeting_first, targetings_for}
use Rattle.scope_targets.proofs.Finding.{no_items}
use Rattle.scope_targets.proofs.targetings.add_targets.Goals as goal

pub constraints-init : goal.constraints-init
constraints-init g c = λ own below next is. refl

pub constraints-preserved : goal.constraints-preserved
constraints-preserved g c = λ own below next is.
    let set = c.args.set.now in
    let scope = c.args.from.now.scope in
    let r = reached c.args.from.now.way.now own below in
    let k = c.in-Some.constraint.now in
    let rest = c.in-Some.rest.now in
    let old = map targeting_of c.constraints.found.items in
    let more = targetings_for set.names.now set.parts.now set.identities.now scope rest r in
    ap (λ xs. xs ++ more) (c.in_ok-add_first.ensures own below next is)
    ∙ append_assoc old (targeting_first set.names.now set.parts.now set.identities.now scope k rest r) more
    ∙ ap (λ (ks : List ℕ). old ++ targetings_for set.names.now set.parts.now set.identities.now scope ks r) (sym c.in-Some.ensures.cases.0)
    ∙ c.constraints.invariant own below next is

pub returns : goal.returns
returns g c = λ own below next is.
    let set = c.args.set.now in
    let r = reached c.args.from.now.way.now own below in
    let now = map targeting_of c.constraints.found.items in
    sym (append-nil now)
    ∙ ap (λ (ks : List ℕ). now ++ targetings_for set.names.now set.parts.now set.identities.now c.args.from.now.scope ks r) (sym (no_items c.constraints.left.now c.in_default.ensures.cases))
    ∙ c.constraints.invariant own below next is
