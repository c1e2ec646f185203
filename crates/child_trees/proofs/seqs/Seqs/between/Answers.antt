use Rattle.std.proofs.Common.{length, take, drop, Some, sym, ap, ◌∙◌, subst, arith}
use Rattle.child_trees.specs.Lists.{acts_along}
use Rattle.child_trees.specs.Sums.{HasSums}
use Rattle.child_trees.proofs.Digits.{walk_bound}
use Rattle.child_trees.proofs.Reading.{no_top, along_none}
use Rattle.child_trees.proofs.Viewing.{live_top, rooted, kept_sums}
use Rattle.child_trees.proofs.seqs.Seqs.between.Goals as goal

pub top-requires : goal.top-requires
top-requires g c =
    let M = g.M.Summary in let s = c.self.inside in let v = s.cells in let ns = s.trees.nodes in let n = c.seq.inside.number in
    let r = rw (← c.self.view_is, ← c.seq.view_is) at c.requires.live in
    let w = live_top M.unit M.join v ns s.tops n r.0 r.1 in
    (w.0, w.1)

pub run_between-requires-clause-tree : goal.run_between-requires-clause-tree
run_between-requires-clause-tree g c =
    let M = g.M.Summary in let s = c.self.inside in let v = s.cells in let ns = s.trees.nodes in let n = c.seq.inside.number in
    let r = rw (← c.self.view_is, ← c.seq.view_is) at c.requires.live in
    let top_is = c.top.ensures ∙ ap Some c.in-Some.is in
    let R = rooted M.unit M.join v ns s.tops c.self.invariant.lists n c.in-Some.top r.0 top_is r.1 in
    rw c.nodes.ensures (R.tree, kept_sums M.unit M.join v ns n c.in-Some.top R.tree R.kept)

pub run_between-requires-clause-state : goal.run_between-requires-clause-state
run_between-requires-clause-state g c = rw (← c.self.view_is) at c.requires.state

pub returns-in-None-clause-value : goal.returns-in-None-clause-value
returns-in-None-clause-value g c = rw (← c.self.view_is, ← c.seq.view_is) (λ xs e.
    let M = g.M.Summary in let s = c.self.inside in let v = s.cells in let ns = s.trees.nodes in let n = c.seq.inside.number in
    along_none M.acts c.args.state c.args.from c.args.to xs (no_top M.unit M.join v ns s.tops n xs (c.top.ensures ∙ ap Some c.in-None.is) e))

pub returns-in-None-clause-state : goal.returns-in-None-clause-state
returns-in-None-clause-state g c = c.requires.state

pub returns-in-Some-clause-value : goal.returns-in-Some-clause-value
returns-in-Some-clause-value g c = rw (← c.self.view_is, ← c.seq.view_is) (λ xs e.
    let M = g.M.Summary in let s = c.self.inside in let v = s.cells in let ns = s.trees.nodes in let n = c.seq.inside.number in
    let top_is = c.top.ensures ∙ ap Some c.in-Some.is in
    let R = rooted M.unit M.join v ns s.tops c.self.invariant.lists n c.in-Some.top xs top_is e in
    let h = subst (λ ks. HasSums M.unit M.join v ks c.in-Some.top R.tree) (sym c.nodes.ensures) (kept_sums M.unit M.join v ns n c.in-Some.top R.tree R.kept) in
    c.run_between.ensures.value R.tree h ∙ ap (λ ys. acts_along M.acts c.args.state (drop c.args.from (take c.args.to ys))) R.entries_are)

pub returns-in-Some-clause-state : goal.returns-in-Some-clause-state
returns-in-Some-clause-state g c = rw (← c.self.view_is) c.run_between.ensures.state

pub returns-in-Some-clause-steps : goal.returns-in-Some-clause-steps
returns-in-Some-clause-steps g c = rw (← c.self.view_is, ← c.seq.view_is) (λ xs e.
    let M = g.M.Summary in let s = c.self.inside in let v = s.cells in let ns = s.trees.nodes in let n = c.seq.inside.number in
    let top_is = c.top.ensures ∙ ap Some c.in-Some.is in
    let R = rooted M.unit M.join v ns s.tops c.self.invariant.lists n c.in-Some.top xs top_is e in
    let h = subst (λ ks. HasSums M.unit M.join v ks c.in-Some.top R.tree) (sym c.nodes.ensures) (kept_sums M.unit M.join v ns n c.in-Some.top R.tree R.kept) in
    let few = walk_bound R.tree (length xs) R.kept.tree.avl R.size_is in
    let all = (c.run_between.ensures.steps R.tree h).all in
    omega (arith, all, few, c.run_between.ensures.least))

pub returns-in-None-clause-few : goal.returns-in-None-clause-few
returns-in-None-clause-few g c = rw (← c.self.view_is, ← c.seq.view_is) (λ xs e.
    let M = g.M.Summary in let s = c.self.inside in let v = s.cells in let ns = s.trees.nodes in let n = c.seq.inside.number in
    omega (arith, ap length (no_top M.unit M.join v ns s.tops n xs (c.top.ensures ∙ ap Some c.in-None.is) e)))

pub returns-in-Some-clause-few : goal.returns-in-Some-clause-few
returns-in-Some-clause-few g c = rw (← c.self.view_is, ← c.seq.view_is) (λ xs e.
    let M = g.M.Summary in let s = c.self.inside in let v = s.cells in let ns = s.trees.nodes in let n = c.seq.inside.number in
    let top_is = c.top.ensures ∙ ap Some c.in-Some.is in
    let R = rooted M.unit M.join v ns s.tops c.self.invariant.lists n c.in-Some.top xs top_is e in
    omega (arith, R.size_is, R.kept.tree.has.few))
