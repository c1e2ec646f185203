use Rattle.std.proofs.Common.{length, sym, ◌∙◌, subst, arith}
use Rattle.leaf_trees.specs.Arena.{at}
use Rattle.child_trees.specs.Cells.{map_at}
use Rattle.child_trees.specs.Sums.{AreSums, AreSidesSums}
use Rattle.child_trees.proofs.Split.{top_has_cell, top_not_left, top_not_right, sides}
use Rattle.child_trees.proofs.Summing.{sum_made}
use Rattle.child_trees.proofs.sums.sum_sides.Goals as goal

pub join-requires-clause-left : goal.join-requires-clause-left
join-requires-clause-left g c =
    let n = length c.args.cells.now.maps in let ns = c.args.nodes.now in
    let s = sides n ns c.args.top c.requires.0 c.requires.1 (omega (arith, c.if-node-gt0.true)) in
    top_has_cell n ns (at ns c.args.top).left s.l s.left

pub join-requires-clause-right : goal.join-requires-clause-right
join-requires-clause-right g c =
    let n = length c.args.cells.now.maps in let ns = c.args.nodes.now in
    let s = sides n ns c.args.top c.requires.0 c.requires.1 (omega (arith, c.if-node-gt0.true)) in
    top_has_cell n ns (at ns c.args.top).right s.r s.right

pub join-requires-clause-into : goal.join-requires-clause-into
join-requires-clause-into g c = top_has_cell (length c.args.cells.now.maps) c.args.nodes.now c.args.top c.requires.0 c.requires.1

pub join-requires-clause-not_left : goal.join-requires-clause-not_left
join-requires-clause-not_left g c =
    let n = length c.args.cells.now.maps in let ns = c.args.nodes.now in
    let s = sides n ns c.args.top c.requires.0 c.requires.1 (omega (arith, c.if-node-gt0.true)) in
    top_not_left n ns c.args.top c.requires.0 s

pub join-requires-clause-not_right : goal.join-requires-clause-not_right
join-requires-clause-not_right g c =
    let n = length c.args.cells.now.maps in let ns = c.args.nodes.now in
    let s = sides n ns c.args.top c.requires.0 c.requires.1 (omega (arith, c.if-node-gt0.true)) in
    top_not_right n ns c.args.top c.requires.0 s

pub returns-then-node-gt0-clause-sums : goal.returns-then-node-gt0-clause-sums
returns-then-node-gt0-clause-sums g c = λ t h e.
    let M = g.M.Summary in let v = c.args.cells.now in let w = c.join.new.self in let f = map_at M.unit v in let k = map_at M.unit w in
    let n = length v.maps in let ns = c.args.nodes.now in
    let s = sides n ns c.args.top t h (omega (arith, c.if-node-gt0.true)) in
    let below = subst (AreSidesSums M.join f) s.is e in
    let m = c.join.ensures.map in
    let here = m.changed ∙ sym (λ x. M.join (f (s.left.has.top_is x)) (f (s.right.has.top_is x))) in
    subst (AreSums M.join k) (sym s.is) (sum_made M.join c.args.top s.l s.r s.apart f k here m.others below.0 below.1)
