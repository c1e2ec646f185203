use Rattle.std.proofs.Common.{◌≡◌, ◌+◌, true, length, sym, ap, subst, ◌∙◌, arith, rules}
use Rattle.leaf_trees.specs.Tree.{Tree, height}
use Rattle.leaf_trees.specs.Arena.{at}
use Rattle.child_trees.specs.Cells.{map_at}
use Rattle.child_trees.specs.Lists.{acts_along, IsFirstDead}
use Rattle.child_trees.specs.Sums.{entries, HasSums}
use Rattle.child_trees.proofs.Acting.{node_acts, node_maps}
use Rattle.child_trees.proofs.Along.{acts_along-append, entries-sides, length-entries, first_left, first_right}
use Rattle.child_trees.proofs.Split.{top_has_cell, sides, side_sums}
use Rattle.child_trees.proofs.walks.+first_dead.Goals as goal

pub act-after-requires-clause-slot : goal.act-after-requires-clause-slot
act-after-requires-clause-slot g t c =
    let v = c.args.cells.now in let ns = c.args.nodes.now in let r = c.requires.tree in
    let s = sides (length v.maps) ns c.args.top r.0 r.1.cells (omega (arith, c.if-node-eq0.false)) in
    top_has_cell (length v.maps) ns (at ns c.args.top).left s.l s.left

pub first_dead-requires : goal.first_dead-requires
first_dead-requires g t c κs within =
    let M = g.M.Summary in let v = c.args.cells.now in let ns = c.args.nodes.now in let r = c.requires.tree in
    let s = sides (length v.maps) ns c.args.top r.0 r.1.cells (omega (arith, c.if-node-eq0.false)) in
    let hl = (side_sums M.unit M.join v ns c.args.top r.0 r.1 s).left in
    let left = node_acts g.met.M.Summary.laws v ns (at ns c.args.top).left s.l hl c.act-after.ensures.maps c.args.state c.requires.state c.act-after.result c.act-after.ensures.value in
    let dead = ap (M.is_dead v.shape) (sym left) ∙ sym c.dead.ensures ∙ c.if-dead.true in
    let lower = s.left_lower in
    let w : (x : Tree) × HasSums M.unit M.join v ns (at ns c.args.top).left x × (M.is_dead v.shape (acts_along M.acts c.args.state (entries (map_at M.unit v) x)) ≡ true) = (s.l, hl, dead) in
    search rules

pub first_dead-requires-else-dead : goal.first_dead-requires-else-dead
first_dead-requires-else-dead g t c κs within =
    let M = g.M.Summary in let v = c.args.cells.now in let f = map_at M.unit v in let ns = c.args.nodes.now in let r = c.requires.tree in
    let s = sides (length v.maps) ns c.args.top r.0 r.1.cells (omega (arith, c.if-node-eq0.false)) in
    let both = side_sums M.unit M.join v ns c.args.top r.0 r.1 s in
    let left = node_acts g.met.M.Summary.laws v ns (at ns c.args.top).left s.l both.left c.act-after.ensures.maps c.args.state c.requires.state c.act-after.result c.act-after.ensures.value in
    let dead = ap (M.is_dead v.shape) (ap (λ z. acts_along M.acts z (entries f s.r)) left ∙ sym (acts_along-append M.acts c.args.state (entries f s.l) (entries f s.r)) ∙ ap (acts_along M.acts c.args.state) (sym (entries-sides f r.0 c.args.top s.l s.r s.is))) ∙ r.2 in
    let lower = s.right_lower in
    let w : (x : Tree) × HasSums M.unit M.join v ns (at ns c.args.top).right x × (M.is_dead v.shape (acts_along M.acts c.act-after.result (entries (map_at M.unit v) x)) ≡ true) = (s.r, both.right, dead) in
    search rules

pub overflow_add-result : goal.overflow_add-result
overflow_add-result g t c =
    let M = g.M.Summary in let v = c.args.cells.now in let f = map_at M.unit v in let ns = c.args.nodes.now in let r = c.requires.tree in
    let s = sides (length v.maps) ns c.args.top r.0 r.1.cells (omega (arith, c.if-node-eq0.false)) in
    let both = side_sums M.unit M.join v ns c.args.top r.0 r.1 s in
    let left = node_acts g.met.M.Summary.laws v ns (at ns c.args.top).left s.l both.left c.act-after.ensures.maps c.args.state c.requires.state c.act-after.result c.act-after.ensures.value in
    let dead = ap (M.is_dead v.shape) (ap (λ z. acts_along M.acts z (entries f s.r)) left ∙ sym (acts_along-append M.acts c.args.state (entries f s.l) (entries f s.r)) ∙ ap (acts_along M.acts c.args.state) (sym (entries-sides f r.0 c.args.top s.l s.r s.is))) ∙ r.2 in
    let first = c.first_dead-else-dead.ensures.place s.r both.right dead in
    omega (arith, first.within, length-entries f s.r, s.left_size, s.few)

pub returns-then-dead-clause-place : goal.returns-then-dead-clause-place
returns-then-dead-clause-place g t c = λ x h d.
    let M = g.M.Summary in let v = c.args.cells.now in let f = map_at M.unit v in let ns = c.args.nodes.now in
    let s = sides (length v.maps) ns c.args.top x h.cells (omega (arith, c.if-node-eq0.false)) in
    let hl = (side_sums M.unit M.join v ns c.args.top x h s).left in
    let left = node_acts g.met.M.Summary.laws v ns (at ns c.args.top).left s.l hl c.act-after.ensures.maps c.args.state c.requires.state c.act-after.result c.act-after.ensures.value in
    let dead = ap (M.is_dead v.shape) (sym left) ∙ sym c.dead.ensures ∙ c.if-dead.true in
    subst (λ xs. IsFirstDead M.acts (M.is_dead v.shape) c.args.state xs c.first_dead.result) (sym (entries-sides f x c.args.top s.l s.r s.is))
    (first_left M.is_state M.is_map M.unit M.join M.acts M.is_dead g.met.M.Summary.laws v.shape f c.args.state (entries f s.l) (entries f s.r) c.first_dead.result (c.first_dead.ensures.place s.l hl dead))

pub returns-then-dead-clause-steps : goal.returns-then-dead-clause-steps
returns-then-dead-clause-steps g t c = λ x h.
    let M = g.M.Summary in let v = c.args.cells.now in let ns = c.args.nodes.now in
    let s = sides (length v.maps) ns c.args.top x h.cells (omega (arith, c.if-node-eq0.false)) in
    let hl = (side_sums M.unit M.join v ns c.args.top x h s).left in
    omega (arith, c.first_dead.ensures.steps s.l hl, c.act-after.ensures.steps, ap height s.is)

pub returns-else-dead-clause-place : goal.returns-else-dead-clause-place
returns-else-dead-clause-place g t c = λ x h d.
    let M = g.M.Summary in let v = c.args.cells.now in let f = map_at M.unit v in let ns = c.args.nodes.now in
    let s = sides (length v.maps) ns c.args.top x h.cells (omega (arith, c.if-node-eq0.false)) in
    let both = side_sums M.unit M.join v ns c.args.top x h s in
    let left = node_acts g.met.M.Summary.laws v ns (at ns c.args.top).left s.l both.left c.act-after.ensures.maps c.args.state c.requires.state c.act-after.result c.act-after.ensures.value in
    let dead = ap (M.is_dead v.shape) (ap (λ z. acts_along M.acts z (entries f s.r)) left ∙ sym (acts_along-append M.acts c.args.state (entries f s.l) (entries f s.r)) ∙ ap (acts_along M.acts c.args.state) (sym (entries-sides f x c.args.top s.l s.r s.is))) ∙ d in
    let alive = ap (M.is_dead v.shape) (sym left) ∙ sym c.dead.ensures ∙ c.if-dead.false in
    let first = subst (λ z. IsFirstDead M.acts (M.is_dead v.shape) z (entries f s.r) c.first_dead-else-dead.result) left (c.first_dead-else-dead.ensures.place s.r both.right dead) in
    subst (λ xs. IsFirstDead M.acts (M.is_dead v.shape) c.args.state xs ((at ns (at ns c.args.top).left).counts.leaves + c.first_dead-else-dead.result)) (sym (entries-sides f x c.args.top s.l s.r s.is))
    (first_right M.is_state M.is_map M.unit M.join M.acts M.is_dead g.met.M.Summary.laws v.shape f c.args.state (entries f s.l) (entries f s.r) c.first_dead-else-dead.result (at ns (at ns c.args.top).left).counts.leaves
    c.requires.state (node_maps g.met.M.Summary.laws v ns (at ns c.args.top).left s.l s.left c.act-after.ensures.maps) (s.left_size ∙ sym (length-entries f s.l)) alive first)

pub returns-else-dead-clause-steps : goal.returns-else-dead-clause-steps
returns-else-dead-clause-steps g t c = λ x h.
    let M = g.M.Summary in let v = c.args.cells.now in let ns = c.args.nodes.now in
    let s = sides (length v.maps) ns c.args.top x h.cells (omega (arith, c.if-node-eq0.false)) in
    let hr = (side_sums M.unit M.join v ns c.args.top x h s).right in
    omega (arith, c.first_dead-else-dead.ensures.steps s.r hr, c.act-after.ensures.steps, ap height s.is)
