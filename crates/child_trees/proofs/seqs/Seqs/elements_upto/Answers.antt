use Rattle.std.proofs.Common.{Some, ap, ◌∙◌, arith}
use Rattle.child_trees.specs.Cells.{map_at}
use Rattle.child_trees.proofs.Reading.{no_top, no_elements, elements_upto_are}
use Rattle.child_trees.proofs.Viewing.{live_top, rooted}
use Rattle.child_trees.proofs.seqs.Seqs.elements_upto.Goals as goal

pub top-requires : goal.top-requires
top-requires g c =
    let M = g.M.Summary in let s = c.self.inside in let v = s.cells in let ns = s.trees.nodes in let n = c.seq.inside.number in
    let r = rw (← c.self.view_is, ← c.seq.view_is) at c.requires.live in
    let w = live_top M.unit M.join v ns s.tops n r.0 r.1 in
    (w.0, w.1)

pub elements_before-requires : goal.elements_before-requires
elements_before-requires g c =
    let M = g.M.Summary in let s = c.self.inside in let v = s.cells in let ns = s.trees.nodes in let n = c.seq.inside.number in
    let r = rw (← c.self.view_is, ← c.seq.view_is) at c.requires.live in
    let top_is = c.top.ensures ∙ ap Some c.in-Some.is in
    let R = rooted M.unit M.join v ns s.tops c.self.invariant.lists n c.in-Some.top r.0 top_is r.1 in
    let le = rw (← c.self.view_is, ← c.seq.view_is) at c.requires.place in
    (n, R.tree, R.kept.tree, omega (arith, le r.0 r.1, R.size_is))

pub returns-in-None : goal.returns-in-None
returns-in-None g c = rw (← c.self.view_is, ← c.seq.view_is) (λ xs e.
    let M = g.M.Summary in let s = c.self.inside in let v = s.cells in let ns = s.trees.nodes in let n = c.seq.inside.number in
    no_elements c.args.place xs (no_top M.unit M.join v ns s.tops n xs (c.top.ensures ∙ ap Some c.in-None.is) e))

pub returns-in-Some : goal.returns-in-Some
returns-in-Some g c = rw (← c.self.view_is, ← c.seq.view_is) (λ xs e.
    let M = g.M.Summary in let s = c.self.inside in let v = s.cells in let ns = s.trees.nodes in let n = c.seq.inside.number in
    let top_is = c.top.ensures ∙ ap Some c.in-Some.is in
    let R = rooted M.unit M.join v ns s.tops c.self.invariant.lists n c.in-Some.top xs top_is e in
    let le = rw (← c.self.view_is, ← c.seq.view_is) at c.requires.place in
    c.elements_before.ensures n R.tree R.kept.tree (omega (arith, le xs e, R.size_is)) ∙ elements_upto_are (map_at M.unit v) R.tree c.args.place xs R.entries_are)
