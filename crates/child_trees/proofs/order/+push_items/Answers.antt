use Rattle.std.proofs.Common.{◌++◌, ap, sym, ◌∙◌, arith}
use Rattle.leaf_trees.proofs.Parts.{parts, top_within}
use Rattle.child_trees.proofs.Ordering.{leaf_items, fork_items}
use Rattle.child_trees.proofs.order.+push_items.Goals as goal

pub bounds-nodes-top : goal.bounds-nodes-top
bounds-nodes-top t c = let q = c.requires in top_within c.args.nodes.now c.args.top q.0 q.1

pub returns-then-node-eq0 : goal.returns-then-node-eq0
returns-then-node-eq0 t c = λ v h. c.in_ok-push.ensures.items ∙ ap (λ xs. c.args.items.now.items ++ xs) (sym (leaf_items c.args.nodes.now c.args.top v h c.if-node-eq0.true))

pub push_items-requires : goal.push_items-requires
push_items-requires t c =
    let q = c.requires in
    let P = parts c.args.nodes.now c.args.top q.0 q.1 (omega (arith, c.if-node-eq0.false)) in
    (omega (arith, c.decreases, P.left_lower), (P.l, P.left))

pub push_items-requires-2 : goal.push_items-requires-2
push_items-requires-2 t c =
    let q = c.requires in
    let P = parts c.args.nodes.now c.args.top q.0 q.1 (omega (arith, c.if-node-eq0.false)) in
    (omega (arith, c.decreases, P.right_lower), (P.r, P.right))

pub returns : goal.returns
returns t c = λ v h.
    let P = parts c.args.nodes.now c.args.top v h (omega (arith, c.if-node-eq0.false)) in
    fork_items c.args.items.now.items c.push_items.new.items.items c.push_items-2.new.items.items v c.args.top P.l P.r P.is (c.in_ok-push_items.ensures P.l P.left) (c.in_ok-push_items-2.ensures P.r P.right)
