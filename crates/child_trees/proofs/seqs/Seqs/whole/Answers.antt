use Rattle.std.proofs.Common.{[], length, Some, sym, ap, ◌∙◌, arith}
use Rattle.child_trees.specs.Lists.{acts_along}
use Rattle.leaf_trees.proofs.Held.{positive}
use Rattle.child_trees.proofs.Acting.{node_acts}
use Rattle.child_trees.proofs.Reading.{no_top}
use Rattle.child_trees.proofs.Split.{top_has_cell}
use Rattle.child_trees.proofs.Viewing.{live_top, rooted, kept_sums}
use Rattle.child_trees.proofs.seqs.Seqs.whole.Goals as goal

pub top-requires : goal.top-requires
top-requires g c =
    let M = g.M.Summary in let s = c.self.inside in let v = s.cells in let ns = s.trees.nodes in let n = c.seq.inside.number in
    let r = rw (← c.self.view_is, ← c.seq.view_is) at c.requires.live in
    let w = live_top M.unit M.join v ns s.tops n r.0 r.1 in
    (w.0, w.1)

pub act-requires-clause-slot : goal.act-requires-clause-slot
act-requires-clause-slot g c =
    let M = g.M.Summary in let s = c.self.inside in let v = s.cells in let ns = s.trees.nodes in let n = c.seq.inside.number in
    let r = rw (← c.self.view_is, ← c.seq.view_is) at c.requires.live in
    let top_is = c.top.ensures ∙ ap Some c.in-Some.is in
    let R = rooted M.unit M.join v ns s.tops c.self.invariant.lists n c.in-Some.top r.0 top_is r.1 in
    top_has_cell (length v.maps) ns c.in-Some.top R.tree (kept_sums M.unit M.join v ns n c.in-Some.top R.tree R.kept).cells

pub act-requires-clause-state : goal.act-requires-clause-state
act-requires-clause-state g c = rw (← c.self.view_is) at c.requires.state

pub returns-in-None-clause-value : goal.returns-in-None-clause-value
returns-in-None-clause-value g c = rw (← c.self.view_is, ← c.seq.view_is) (λ xs e.
    let M = g.M.Summary in let s = c.self.inside in let v = s.cells in let ns = s.trees.nodes in let n = c.seq.inside.number in
    sym (ap (acts_along M.acts c.args.state) (no_top M.unit M.join v ns s.tops n xs (c.top.ensures ∙ ap Some c.in-None.is) e)))

pub returns-in-None-clause-state : goal.returns-in-None-clause-state
returns-in-None-clause-state g c = c.requires.state

pub returns-in-Some-clause-value : goal.returns-in-Some-clause-value
returns-in-Some-clause-value g c = rw (← c.self.view_is, ← c.seq.view_is) (λ xs e.
    let M = g.M.Summary in let s = c.self.inside in let v = s.cells in let ns = s.trees.nodes in let n = c.seq.inside.number in
    let top_is = c.top.ensures ∙ ap Some c.in-Some.is in
    let R = rooted M.unit M.join v ns s.tops c.self.invariant.lists n c.in-Some.top xs top_is e in
    let state = rw (← c.self.view_is) at c.requires.state in
    node_acts g.met.M.Summary.laws v ns c.in-Some.top R.tree (kept_sums M.unit M.join v ns n c.in-Some.top R.tree R.kept) c.act.ensures.maps c.args.state state c.act.result c.act.ensures.value
    ∙ ap (acts_along M.acts c.args.state) R.entries_are)

pub returns-in-Some-clause-state : goal.returns-in-Some-clause-state
returns-in-Some-clause-state g c = rw (← c.self.view_is) c.act.ensures.state

pub returns-in-Some-clause-none : goal.returns-in-Some-clause-none
returns-in-Some-clause-none g c = rw (← c.self.view_is, ← c.seq.view_is) (λ e.
    let M = g.M.Summary in let s = c.self.inside in let v = s.cells in let ns = s.trees.nodes in let n = c.seq.inside.number in
    let top_is = c.top.ensures ∙ ap Some c.in-Some.is in
    let R = rooted M.unit M.join v ns s.tops c.self.invariant.lists n c.in-Some.top [] top_is e in
    let p = positive R.tree in absurd (omega (arith, p, R.size_is)))
