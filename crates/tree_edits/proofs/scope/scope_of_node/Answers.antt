use Rattle.std.proofs.Common.{◌++◌, ap, ◌∙◌}
use Rattle.tag_names.specs.Scopes.{first_scope}
use Rattle.tree_edits.proofs.NodeScopes.{no_scope, node_scope}
use Rattle.tree_edits.proofs.scope.scope_of_node.Goals as goal

pub returns-in_default : goal.returns-in_default
returns-in_default c =
    let past = rw c.in_default.is at c.get.ensures.lookup in
    let none = no_scope c.args.rows.now c.args.node c.place_of-place.result first_scope c.requires.whole c.place_of-place.ensures past.3 in
    rw none c.new.ensures

pub returns : goal.returns
returns c =
    let there = rw c.in-Some.is at c.get.ensures.lookup in
    c.in_ok-bind_all.ensures.ok ∙ ap (λ b. b ++ c.in_ok-scope.scope) c.as_slice.ensures ∙ ap (λ s. c.in-Some.row.now.bindings ++ s) c.in_ok-scope.ensures
    ∙ node_scope c.args.rows.now c.args.node c.place_of-place.result c.in-Some.row.now first_scope c.requires.whole c.place_of-place.ensures there.3.0 there.1
