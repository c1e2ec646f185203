use Rattle.std.proofs.Common.{◌≡◌, ◌++◌, ◌∷◌, [], ℕ, List, refl, sym, ap, ◌∙◌, subst, arith, rules}
use Rattle.identity_constraints.specs.Seen.{KeyForest}
use Rattle.identity_constraints.specs.Targets.{FieldNode, nodes_at}
use Rattle.path_walk.specs.Sight.{AreNamed, below_first, seen}
use Rattle.path_walk.specs.inside.Nodes.{AreAdded}
use Rattle.path_walk.specs.inside.Walk.{nodes_along, reached, size}
use Rattle.path_walk.proofs.Adding.{added_none, added_both}
use Rattle.path_walk.proofs.Ending.{none-along}
use Rattle.path_walk.proofs.Walking.{along_next, along_done, way_back, way_down, way_all, named_first, named_below, named_behind, size_first}
use Rattle.path_walk.proofs.fields.+add_below.Goals as goal

pub left-init : goal.left-init
left-init g t c = record {
  named = c.requires.named;
  way = refl;
  depth = search rules;
  fewer = omega arith;
  done = [];
  added = added_none c.args.set.now.parts.now c.args.nodes.now;
  all = refl;
}

pub add_nodes-requires-clause-way : goal.add_nodes-requires-clause-way
add_nodes-requires-clause-way g t c =
    let names = c.args.set.now.names.now in
    let l = c.left in
    let own = seen c.in-Some.own in
    way_all names c.args.way.now.items l.way.items c.as_slice.result.now own.name l.invariant.way (c.as_slice.ensures.value ∙ c.in_ok-push.ensures.items) c.requires.way (named_first names (g.T.KeySiblings.forest l.left) own c.in-Some.ensures l.invariant.named).name

pub add_nodes-requires-clause-named : goal.add_nodes-requires-clause-named
add_nodes-requires-clause-named g t c =
    named_first c.args.set.now.names.now (g.T.KeySiblings.forest c.left.left) (seen c.in-Some.own) c.in-Some.ensures c.left.invariant.named

pub add_below-requires : goal.add_below-requires
add_below-requires g t c κs within =
    let names = c.args.set.now.names.now in
    let l = c.left in
    let f = g.T.KeySiblings.forest l.left in
    let own = seen c.in-Some.own in
    let sizes = size_first f own c.in-Some.ensures in
    let fewer = l.invariant.fewer in
    let under = ap size c.below.ensures in (
      omega (arith, c.decreases, sizes, fewer, under),
      (within, (c.requires.contents, (way_all names c.args.way.now.items l.way.items c.push.new.self.items own.name l.invariant.way c.in_ok-push.ensures.items c.requires.way (named_first names f own c.in-Some.ensures l.invariant.named).name, subst (AreNamed names) (sym c.below.ensures) (named_below names f l.invariant.named)))),
    )

pub left-preserved : goal.left-preserved
left-preserved g t c =
    let forest = g.T.KeySiblings.forest in
    let l = c.left in
    let own = seen c.in-Some.own in
    let f = forest l.left in
    let names = c.args.set.now.names.now in
    let parts = c.args.set.now.parts.now in
    let field = c.args.field.now in
    let first = c.args.way.now.items in
    let is = c.in-Some.ensures in
    let down = first ++ own.name ∷ [] in
    let here = nodes_at names field (reached down own (below_first f)) in
    let under = nodes_along names field down (below_first f) in
    let sizes = size_first f own is in
    let fewer = l.invariant.fewer in
    let next_size = ap size c.next-left.ensures in
    let pushed = c.in_ok-push.ensures.items in
    let led : c.push.new.self.items ≡ down = way_down first l.way.items c.push.new.self.items own.name l.invariant.way pushed in
    let one = subst (λ (w : List ℕ). AreAdded parts (nodes_at names field (reached w own (below_first f))) l.nodes c.add_nodes.new.nodes) (c.as_slice.ensures.value ∙ led) (c.in_ok-add_nodes.ensures (below_first f)) in
    let two = subst (λ (w : List ℕ). AreAdded parts (nodes_along names field w (below_first f)) c.add_nodes.new.nodes c.add_below.new.nodes) led
    (subst (λ (x : KeyForest). AreAdded parts (nodes_along names field c.push.new.self.items x) c.add_nodes.new.nodes c.add_below.new.nodes) c.below.ensures c.in_ok-add_below.ensures.nodes) in
    record {
      named = subst (AreNamed names) (sym c.next-left.ensures) (named_behind names f l.invariant.named);
      way = way_back first l.way.items c.push.new.self.items c.add_below.new.way.items c.truncate.new.self.items own.name c.len-depth.result l.invariant.way pushed c.in_ok-add_below.ensures.way l.invariant.depth c.truncate.ensures.items;
      depth = l.invariant.depth;
      fewer = omega (arith, sizes, fewer, next_size);
      done = l.invariant.done ++ (here ++ under);
      added = added_both parts l.invariant.done (here ++ under) c.args.nodes.now l.nodes c.add_below.new.nodes l.invariant.added (added_both parts here under l.nodes c.add_nodes.new.nodes c.add_below.new.nodes one two);
      all = along_next (nodes_at names field) first (forest c.args.siblings) f own l.invariant.done is l.invariant.all
          ∙ ap (λ (x : KeyForest). (l.invariant.done ++ (here ++ under)) ++ nodes_along names field first x) (sym c.next-left.ensures);
    }

pub returns-clause-way : goal.returns-clause-way
returns-clause-way g t c = c.left.invariant.way

pub returns-clause-nodes : goal.returns-clause-nodes
returns-clause-nodes g t c =
    let names = c.args.set.now.names.now in
    let forest = g.T.KeySiblings.forest in
    let inv = c.left.invariant in
    subst (λ (xs : List FieldNode). AreAdded c.args.set.now.parts.now xs c.args.nodes.now c.left.nodes)
    (sym (along_done (nodes_at names c.args.field.now) c.args.way.now.items (forest c.args.siblings) (forest c.left.left) inv.done c.in_default.ensures inv.all)) inv.added

-- a field that reaches no nodes so far down
pub returns-then-not-reaches_deeper-clause-nodes : goal.returns-then-not-reaches_deeper-clause-nodes
returns-then-not-reaches_deeper-clause-nodes g t c =
    let parts = c.args.set.now.parts.now in
    let ends = c.reaches_deeper.ensures c.if-not-reaches_deeper.true in
    let none = none-along c.args.set.now.names.now c.args.field.now c.len-depth.result ends c.args.way.now.items (omega arith) (g.T.KeySiblings.forest c.args.siblings) in
    subst (λ (xs : List FieldNode). AreAdded parts xs c.args.nodes.now c.args.nodes.now) (sym none) (added_none parts c.args.nodes.now)
