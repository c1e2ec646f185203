use Rattle.std.proofs.Common.{◌≡◌, ap, subst, ◌∙◌}
use Rattle.identity_constraints.specs.Seen.{KeyForest}
use Rattle.path_walk.specs.Sight.{below_first, seen}
use Rattle.path_walk.specs.inside.Nodes.{AreAdded}
use Rattle.path_walk.specs.inside.Walk.{nodes_along}
use Rattle.path_walk.proofs.Looking.{looked}
use Rattle.path_walk.proofs.Walking.{first_is, not_none}
use Rattle.path_walk.proofs.fields.nodes_of.Goals as goal
use Rattle.path_walk.proofs.fields.nodes_of.Goals.{in-Some+in_ok-add_nodes, in_default}

pub returns : goal.returns
returns g c = λ own below next is.
    let names = c.args.set.now.names.now in
    let t = c.args.set.now.parts.now in
    let field = c.args.field.now in
    let f = g.T.KeySiblings.forest c.args.target in
    let under : g.T.KeySiblings.forest c.below.result ≡ below = c.below.ensures ∙ ap below_first is in
    let rest = subst (λ (x : KeyForest). AreAdded t (nodes_along names field c.new-way.result.items x) c.match-first.nodes c.add_below.new.nodes) under c.in_ok-add_below.ensures.nodes in
    elim c.match-first.branch [
      | in-Some+in_ok-add_nodes w ↦
          looked names t field own (seen w.in-Some.own) below w.as_slice.result.now c.new-way.result.items c.new-nodes.result w.add_nodes.new.nodes c.add_below.new.nodes
          (first_is f own (seen w.in-Some.own) below next is w.in-Some.ensures) (w.as_slice.ensures.value ∙ c.new-way.ensures.items) c.new-way.ensures.items (c.new-nodes.ensures t) w.in_ok-add_nodes.ensures
          (subst (λ nodes. AreAdded t (nodes_along names field c.new-way.result.items below) nodes c.add_below.new.nodes) w.nodes-is rest)
      | in_default w ↦ absurd (not_none f own below next is w.in_default.ensures)
    ]
