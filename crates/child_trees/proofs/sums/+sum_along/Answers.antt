use Rattle.std.proofs.Common.{◌-◌, ◌<◌, ◌≤◌, length, sym, ap, ◌∙◌, subst, arith, rules}
use Rattle.leaf_trees.specs.Tree.{Tree, size, height}
use Rattle.leaf_trees.specs.Arena.{at}
use Rattle.child_trees.specs.Cells.{map_at}
use Rattle.child_trees.specs.Sums.{AreSums, AreSumsBut, HasCells, KeepsMaps}
use Rattle.child_trees.proofs.Split.{top_has_cell, top_not_left, top_not_right, sides}
use Rattle.child_trees.proofs.Summing.{has_slots, but_left, but_right, along_left, along_right, along_same}
use Rattle.child_trees.proofs.sums.+sum_along.Goals as goal

pub sum_along-requires : goal.sum_along-requires
sum_along-requires g t c κs within =
    let n = length c.args.cells.now.maps in let ns = c.args.nodes.now in
    let s = sides n ns c.args.top c.requires.0 c.requires.1 (omega (arith, c.if-node-eq0.false)) in
    let lower = s.left_lower in
    let w : (x : Tree) × HasCells n ns (at ns c.args.top).left x = (s.l, s.left) in
    search rules

pub sum_sides-requires : goal.sum_sides-requires
sum_sides-requires g t c =
    let n = length c.args.cells.now.maps in let ns = c.args.nodes.now in
    let s = sides n ns c.args.top c.requires.0 c.requires.1 (omega (arith, c.if-node-eq0.false)) in
    (s.r, has_slots _ _ ns (at ns c.args.top).right s.r c.sum_along.ensures.slots s.right)

pub join-requires-clause-left : goal.join-requires-clause-left
join-requires-clause-left g t c =
    let n = length c.args.cells.now.maps in let ns = c.args.nodes.now in
    let s = sides n ns c.args.top c.requires.0 c.requires.1 (omega (arith, c.if-node-eq0.false)) in
    let w = top_has_cell n ns (at ns c.args.top).left s.l s.left in omega (arith, w, c.sum_along.ensures.slots.size, c.sum_sides.ensures.slots.size)

pub join-requires-clause-right : goal.join-requires-clause-right
join-requires-clause-right g t c =
    let n = length c.args.cells.now.maps in let ns = c.args.nodes.now in
    let s = sides n ns c.args.top c.requires.0 c.requires.1 (omega (arith, c.if-node-eq0.false)) in
    let w = top_has_cell n ns (at ns c.args.top).right s.r s.right in omega (arith, w, c.sum_along.ensures.slots.size, c.sum_sides.ensures.slots.size)

pub join-requires-clause-into : goal.join-requires-clause-into
join-requires-clause-into g t c =
    let n = length c.args.cells.now.maps in let ns = c.args.nodes.now in
    let s = sides n ns c.args.top c.requires.0 c.requires.1 (omega (arith, c.if-node-eq0.false)) in
    let w = top_has_cell n ns c.args.top c.requires.0 c.requires.1 in omega (arith, w, c.sum_along.ensures.slots.size, c.sum_sides.ensures.slots.size)

pub join-requires-clause-not_left : goal.join-requires-clause-not_left
join-requires-clause-not_left g t c =
    let n = length c.args.cells.now.maps in let ns = c.args.nodes.now in
    let s = sides n ns c.args.top c.requires.0 c.requires.1 (omega (arith, c.if-node-eq0.false)) in
    top_not_left n ns c.args.top c.requires.0 s

pub join-requires-clause-not_right : goal.join-requires-clause-not_right
join-requires-clause-not_right g t c =
    let n = length c.args.cells.now.maps in let ns = c.args.nodes.now in
    let s = sides n ns c.args.top c.requires.0 c.requires.1 (omega (arith, c.if-node-eq0.false)) in
    top_not_right n ns c.args.top c.requires.0 s

pub returns-then-place-before-clause-sums : goal.returns-then-place-before-clause-sums
returns-then-place-before-clause-sums g t c = λ x h e.
    let M = g.M.Summary in let n = length c.args.cells.now.maps in let ns = c.args.nodes.now in
    let s = sides n ns c.args.top x h (omega (arith, c.if-node-eq0.false)) in
    let f = map_at M.unit c.args.cells.now in let f1 = map_at M.unit c.sum_along.new.cells in let f2 = map_at M.unit c.sum_sides.new.cells in let f3 = map_at M.unit c.join.new.self in
    let m = c.join.ensures.map in
    let right = has_slots _ _ ns (at ns c.args.top).right s.r c.sum_along.ensures.slots s.right in
    let here = m.changed ∙ sym (λ k. M.join (f2 (s.left.has.top_is k)) (f2 (s.right.has.top_is k))) in
    let place : c.args.place < size s.l = omega (arith, c.if-place-before.true, s.left_size) in
    let was = but_left M.join c.args.top c.args.place s.l s.r f place (subst (AreSumsBut M.join f c.args.place) s.is e) in
    subst (AreSums M.join f3) (sym s.is)
    (along_left M.join c.args.top s.l s.r s.apart f f1 f2 f3 (c.sum_along.ensures.maps s.l s.left).same (c.sum_sides.ensures.maps s.r right).same m.others here (c.sum_along.ensures.sums s.l s.left was.0) was.1 (c.sum_sides.ensures.sums s.r right))

pub returns-then-place-before-clause-maps : goal.returns-then-place-before-clause-maps
returns-then-place-before-clause-maps g t c = λ x h.
    let M = g.M.Summary in let n = length c.args.cells.now.maps in let ns = c.args.nodes.now in
    let s = sides n ns c.args.top x h (omega (arith, c.if-node-eq0.false)) in
    let f = map_at M.unit c.args.cells.now in let f1 = map_at M.unit c.sum_along.new.cells in let f2 = map_at M.unit c.sum_sides.new.cells in let f3 = map_at M.unit c.join.new.self in
    let m = c.join.ensures.map in
    let right = has_slots _ _ ns (at ns c.args.top).right s.r c.sum_along.ensures.slots s.right in
    subst (KeepsMaps M.unit c.args.cells.now c.join.new.self) (sym s.is)
    (record { same = along_same M.join c.args.top s.l s.r f f1 f2 f3 (c.sum_along.ensures.maps s.l s.left).same (c.sum_sides.ensures.maps s.r right).same m.others })

pub returns-then-place-before-clause-steps : goal.returns-then-place-before-clause-steps
returns-then-place-before-clause-steps g t c = λ x h.
    let n = length c.args.cells.now.maps in let ns = c.args.nodes.now in
    let s = sides n ns c.args.top x h (omega (arith, c.if-node-eq0.false)) in
    omega (arith, c.sum_along.ensures.steps s.l s.left, c.sum_sides.ensures.steps, c.join.ensures.steps, ap height s.is)

pub sum_sides-requires-else-place-before : goal.sum_sides-requires-else-place-before
sum_sides-requires-else-place-before g t c =
    let n = length c.args.cells.now.maps in let ns = c.args.nodes.now in
    let s = sides n ns c.args.top c.requires.0 c.requires.1 (omega (arith, c.if-node-eq0.false)) in
    (s.l, s.left)

pub sum_along-requires-else-place-before : goal.sum_along-requires-else-place-before
sum_along-requires-else-place-before g t c κs within =
    let n = length c.args.cells.now.maps in let ns = c.args.nodes.now in
    let s = sides n ns c.args.top c.requires.0 c.requires.1 (omega (arith, c.if-node-eq0.false)) in
    let lower = s.right_lower in
    let m = length c.sum_sides-else-place-before.new.cells.maps in
    let w : (x : Tree) × HasCells m ns (at ns c.args.top).right x = (s.r, has_slots _ _ ns (at ns c.args.top).right s.r c.sum_sides-else-place-before.ensures.slots s.right) in
    search rules

pub join-requires-else-place-before-clause-left : goal.join-requires-else-place-before-clause-left
join-requires-else-place-before-clause-left g t c =
    let n = length c.args.cells.now.maps in let ns = c.args.nodes.now in
    let s = sides n ns c.args.top c.requires.0 c.requires.1 (omega (arith, c.if-node-eq0.false)) in
    let w = top_has_cell n ns (at ns c.args.top).left s.l s.left in omega (arith, w, c.sum_sides-else-place-before.ensures.slots.size, c.sum_along-else-place-before.ensures.slots.size)

pub join-requires-else-place-before-clause-right : goal.join-requires-else-place-before-clause-right
join-requires-else-place-before-clause-right g t c =
    let n = length c.args.cells.now.maps in let ns = c.args.nodes.now in
    let s = sides n ns c.args.top c.requires.0 c.requires.1 (omega (arith, c.if-node-eq0.false)) in
    let w = top_has_cell n ns (at ns c.args.top).right s.r s.right in omega (arith, w, c.sum_sides-else-place-before.ensures.slots.size, c.sum_along-else-place-before.ensures.slots.size)

pub join-requires-else-place-before-clause-into : goal.join-requires-else-place-before-clause-into
join-requires-else-place-before-clause-into g t c =
    let n = length c.args.cells.now.maps in let ns = c.args.nodes.now in
    let s = sides n ns c.args.top c.requires.0 c.requires.1 (omega (arith, c.if-node-eq0.false)) in
    let w = top_has_cell n ns c.args.top c.requires.0 c.requires.1 in omega (arith, w, c.sum_sides-else-place-before.ensures.slots.size, c.sum_along-else-place-before.ensures.slots.size)

pub join-requires-else-place-before-clause-not_left : goal.join-requires-else-place-before-clause-not_left
join-requires-else-place-before-clause-not_left g t c =
    let n = length c.args.cells.now.maps in let ns = c.args.nodes.now in
    let s = sides n ns c.args.top c.requires.0 c.requires.1 (omega (arith, c.if-node-eq0.false)) in
    top_not_left n ns c.args.top c.requires.0 s

pub join-requires-else-place-before-clause-not_right : goal.join-requires-else-place-before-clause-not_right
join-requires-else-place-before-clause-not_right g t c =
    let n = length c.args.cells.now.maps in let ns = c.args.nodes.now in
    let s = sides n ns c.args.top c.requires.0 c.requires.1 (omega (arith, c.if-node-eq0.false)) in
    top_not_right n ns c.args.top c.requires.0 s

pub returns-else-place-before-clause-sums : goal.returns-else-place-before-clause-sums
returns-else-place-before-clause-sums g t c = λ x h e.
    let M = g.M.Summary in let n = length c.args.cells.now.maps in let ns = c.args.nodes.now in
    let s = sides n ns c.args.top x h (omega (arith, c.if-node-eq0.false)) in
    let f = map_at M.unit c.args.cells.now in let f1 = map_at M.unit c.sum_sides-else-place-before.new.cells in let f2 = map_at M.unit c.sum_along-else-place-before.new.cells in let f3 = map_at M.unit c.join-else-place-before.new.self in
    let m = c.join-else-place-before.ensures.map in
    let right = has_slots _ _ ns (at ns c.args.top).right s.r c.sum_sides-else-place-before.ensures.slots s.right in
    let here = m.changed ∙ sym (λ k. M.join (f2 (s.left.has.top_is k)) (f2 (s.right.has.top_is k))) in
    let place : size s.l ≤ c.args.place = omega (arith, c.if-place-before.false, s.left_size) in
    let was = but_right M.join c.args.top c.args.place s.l s.r f place (subst (AreSumsBut M.join f c.args.place) s.is e) in
    subst (AreSums M.join f3) (sym s.is)
    (along_right M.join c.args.top s.l s.r s.apart f f1 f2 f3 (c.args.place - size s.l) (c.sum_sides-else-place-before.ensures.maps s.l s.left).same (c.sum_along-else-place-before.ensures.maps s.r right).same m.others here (c.sum_sides-else-place-before.ensures.sums s.l s.left was.0) was.1
    (λ z. c.sum_along-else-place-before.ensures.sums s.r right (subst (λ k. AreSumsBut M.join f1 (c.args.place - k) s.r) (sym s.left_size) z)))

pub returns-else-place-before-clause-maps : goal.returns-else-place-before-clause-maps
returns-else-place-before-clause-maps g t c = λ x h.
    let M = g.M.Summary in let n = length c.args.cells.now.maps in let ns = c.args.nodes.now in
    let s = sides n ns c.args.top x h (omega (arith, c.if-node-eq0.false)) in
    let f = map_at M.unit c.args.cells.now in let f1 = map_at M.unit c.sum_sides-else-place-before.new.cells in let f2 = map_at M.unit c.sum_along-else-place-before.new.cells in let f3 = map_at M.unit c.join-else-place-before.new.self in
    let m = c.join-else-place-before.ensures.map in
    let right = has_slots _ _ ns (at ns c.args.top).right s.r c.sum_sides-else-place-before.ensures.slots s.right in
    subst (KeepsMaps M.unit c.args.cells.now c.join-else-place-before.new.self) (sym s.is)
    (record { same = along_same M.join c.args.top s.l s.r f f1 f2 f3 (c.sum_sides-else-place-before.ensures.maps s.l s.left).same (c.sum_along-else-place-before.ensures.maps s.r right).same m.others })

pub returns-else-place-before-clause-steps : goal.returns-else-place-before-clause-steps
returns-else-place-before-clause-steps g t c = λ x h.
    let n = length c.args.cells.now.maps in let ns = c.args.nodes.now in
    let s = sides n ns c.args.top x h (omega (arith, c.if-node-eq0.false)) in
    let right = has_slots _ _ ns (at ns c.args.top).right s.r c.sum_sides-else-place-before.ensures.slots s.right in
    omega (arith, c.sum_along-else-place-before.ensures.steps s.r right, c.sum_sides-else-place-before.ensures.steps, c.join-else-place-before.ensures.steps, ap height s.is)
