use Rattle.std.proofs.Common.{length, Some, sym, ap, ◌∙◌, subst, arith}
use Rattle.child_trees.specs.Cells.{map_at}
use Rattle.child_trees.specs.Sums.{entries, HasSums}
use Rattle.child_trees.specs.Lists.{IsFirstDead, NoneIsDead}
use Rattle.child_trees.proofs.Acting.{node_acts, node_maps}
use Rattle.child_trees.proofs.Along.{none_dead}
use Rattle.child_trees.proofs.Digits.{walk_bound}
use Rattle.child_trees.proofs.Reading.{no_top}
use Rattle.child_trees.proofs.Split.{top_has_cell}
use Rattle.child_trees.proofs.Viewing.{live_top, rooted, kept_sums}
use Rattle.child_trees.proofs.seqs.Seqs.descend.Goals as goal

pub top-requires : goal.top-requires
top-requires g c =
    let M = g.M.Summary in let s = c.self.inside in let v = s.cells in let ns = s.trees.nodes in let n = c.seq.inside.number in
    let r = rw (← c.self.view_is, ← c.seq.view_is) at c.requires.live in
    let w = live_top M.unit M.join v ns s.tops n r.0 r.1 in
    (w.0, w.1)

pub returns-in_err-top-clause-place : goal.returns-in_err-top-clause-place
returns-in_err-top-clause-place g c = rw (c.from_residual.ensures, ← c.self.view_is, ← c.seq.view_is) (λ xs e.
    let M = g.M.Summary in let s = c.self.inside in let v = s.cells in let ns = s.trees.nodes in let n = c.seq.inside.number in
    let none = no_top M.unit M.join v ns s.tops n xs (c.top.ensures ∙ ap Some c.in_err-top.was) e in
    λ k l. absurd (omega (arith, l, ap length none)))

pub act-after-requires-clause-slot : goal.act-after-requires-clause-slot
act-after-requires-clause-slot g c =
    let M = g.M.Summary in let s = c.self.inside in let v = s.cells in let ns = s.trees.nodes in let n = c.seq.inside.number in
    let r = rw (← c.self.view_is, ← c.seq.view_is) at c.requires.live in
    let top_is = c.top.ensures ∙ ap Some c.in_ok-top.was in let top = c.in_ok-top.top in
    let R = rooted M.unit M.join v ns s.tops c.self.invariant.lists n top r.0 top_is r.1 in
    let h = (kept_sums M.unit M.join v ns n top R.tree R.kept).cells in
    top_has_cell (length v.maps) ns top R.tree h

pub act-after-requires-clause-state : goal.act-after-requires-clause-state
act-after-requires-clause-state g c = rw (← c.self.view_is) at c.requires.state

pub first_dead-requires-clause-tree : goal.first_dead-requires-clause-tree
first_dead-requires-clause-tree g c =
    let M = g.M.Summary in let s = c.self.inside in let v = s.cells in let ns = s.trees.nodes in let n = c.seq.inside.number in
    let r = rw (← c.self.view_is, ← c.seq.view_is) at c.requires.live in
    let top_is = c.top.ensures ∙ ap Some c.in_ok-top.was in let top = c.in_ok-top.top in
    let R = rooted M.unit M.join v ns s.tops c.self.invariant.lists n top r.0 top_is r.1 in
    let h = (kept_sums M.unit M.join v ns n top R.tree R.kept).cells in
    let hs = kept_sums M.unit M.join v ns n top R.tree R.kept in
    let state = rw (← c.self.view_is) at c.requires.state in
    let all = node_acts g.met.M.Summary.laws v ns top R.tree hs c.act-after.ensures.maps c.args.state state c.act-after.result c.act-after.ensures.value in
    rw c.nodes.ensures (R.tree, hs, ap (M.is_dead v.shape) (sym all) ∙ sym c.dead.ensures ∙ c.if-dead.true)

pub first_dead-requires-clause-state : goal.first_dead-requires-clause-state
first_dead-requires-clause-state g c = rw (← c.self.view_is) at c.requires.state

pub returns-then-dead-clause-place : goal.returns-then-dead-clause-place
returns-then-dead-clause-place g c = rw (← c.self.view_is, ← c.seq.view_is) (λ xs e.
    let M = g.M.Summary in let s = c.self.inside in let v = s.cells in let ns = s.trees.nodes in let n = c.seq.inside.number in
    let top_is = c.top.ensures ∙ ap Some c.in_ok-top.was in let top = c.in_ok-top.top in
    let R = rooted M.unit M.join v ns s.tops c.self.invariant.lists n top xs top_is e in
    let h = (kept_sums M.unit M.join v ns n top R.tree R.kept).cells in
    let f = map_at M.unit v in
    let hs = kept_sums M.unit M.join v ns n top R.tree R.kept in
    let state = rw (← c.self.view_is) at c.requires.state in
    let all = node_acts g.met.M.Summary.laws v ns top R.tree hs c.act-after.ensures.maps c.args.state state c.act-after.result c.act-after.ensures.value in
    let dead = ap (M.is_dead v.shape) (sym all) ∙ sym c.dead.ensures ∙ c.if-dead.true in
    let ks = subst (λ ks. HasSums M.unit M.join v ks top R.tree) (sym c.nodes.ensures) hs in
    subst (λ ys. IsFirstDead M.acts (M.is_dead v.shape) c.args.state ys c.first_dead.result) R.entries_are (c.first_dead.ensures.place R.tree ks dead))

pub returns-then-dead-clause-steps : goal.returns-then-dead-clause-steps
returns-then-dead-clause-steps g c = rw (← c.self.view_is, ← c.seq.view_is) (λ xs e.
    let M = g.M.Summary in let s = c.self.inside in let v = s.cells in let ns = s.trees.nodes in let n = c.seq.inside.number in
    let top_is = c.top.ensures ∙ ap Some c.in_ok-top.was in let top = c.in_ok-top.top in
    let R = rooted M.unit M.join v ns s.tops c.self.invariant.lists n top xs top_is e in
    let h = (kept_sums M.unit M.join v ns n top R.tree R.kept).cells in
    let ks = subst (λ ks. HasSums M.unit M.join v ks top R.tree) (sym c.nodes.ensures) (kept_sums M.unit M.join v ns n top R.tree R.kept) in
    let few = walk_bound R.tree (length xs) R.kept.tree.avl R.size_is in
    omega (arith, c.first_dead.ensures.steps R.tree ks, c.act-after.ensures.steps, few))

pub returns-else-dead-clause-place : goal.returns-else-dead-clause-place
returns-else-dead-clause-place g c = rw (← c.self.view_is, ← c.seq.view_is) (λ xs e.
    let M = g.M.Summary in let s = c.self.inside in let v = s.cells in let ns = s.trees.nodes in let n = c.seq.inside.number in
    let top_is = c.top.ensures ∙ ap Some c.in_ok-top.was in let top = c.in_ok-top.top in
    let R = rooted M.unit M.join v ns s.tops c.self.invariant.lists n top xs top_is e in
    let h = (kept_sums M.unit M.join v ns n top R.tree R.kept).cells in
    let f = map_at M.unit v in
    let hs = kept_sums M.unit M.join v ns n top R.tree R.kept in
    let state = rw (← c.self.view_is) at c.requires.state in
    let all = node_acts g.met.M.Summary.laws v ns top R.tree hs c.act-after.ensures.maps c.args.state state c.act-after.result c.act-after.ensures.value in
    let alive = ap (M.is_dead v.shape) (sym all) ∙ sym c.dead.ensures ∙ c.if-dead.false in
    subst (NoneIsDead M.acts (M.is_dead v.shape) c.args.state) R.entries_are
    (none_dead M.is_state M.is_map M.unit M.join M.acts M.is_dead g.met.M.Summary.laws v.shape f (entries f R.tree) (node_maps g.met.M.Summary.laws v ns top R.tree h c.act-after.ensures.maps) c.args.state state alive))

pub returns-else-dead-clause-steps : goal.returns-else-dead-clause-steps
returns-else-dead-clause-steps g c = λ xs e. omega (arith, c.act-after.ensures.steps)
