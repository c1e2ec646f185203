use Rattle.std.proofs.Common.{◌<◌, length, filter, Some, sym, ap, ◌∙◌, arith}
use Rattle.std.specs.Prelude.{slice_get}
use Rattle.leaf_trees.specs.Arena.{at}
use Rattle.child_trees.specs.Cells.{map_at}
use Rattle.leaf_trees.specs.Tree.{leaves, marked_items}
use Rattle.child_trees.specs.Lists.{items}
use Rattle.child_trees.proofs.Reading.{no_top, get_some, get_none, marked_are}
use Rattle.child_trees.proofs.Split.{top_within, top_marked}
use Rattle.child_trees.proofs.Viewing.{live_top, rooted, kept_sums}
use Rattle.child_trees.proofs.seqs.Seqs.nth_marked.Goals as goal

pub top-requires : goal.top-requires
top-requires g c =
    let M = g.M.Summary in let s = c.self.inside in let v = s.cells in let ns = s.trees.nodes in let n = c.seq.inside.number in
    let r = rw (← c.self.view_is, ← c.seq.view_is) at c.requires in
    let w = live_top M.unit M.join v ns s.tops n r.0 r.1 in
    (w.0, w.1)

pub returns-in_err-top : goal.returns-in_err-top
returns-in_err-top g c = rw (c.from_residual.ensures, ← c.self.view_is, ← c.seq.view_is) (λ xs e.
    let M = g.M.Summary in let s = c.self.inside in let v = s.cells in let ns = s.trees.nodes in let n = c.seq.inside.number in
    sym (ap (λ ys. slice_get (items (filter (λ e. e.marked) ys)) c.args.k) (no_top M.unit M.join v ns s.tops n xs (c.top.ensures ∙ ap Some c.in_err-top.was) e)))

pub bounds-nodes-top : goal.bounds-nodes-top
bounds-nodes-top g c =
    let M = g.M.Summary in let s = c.self.inside in let v = s.cells in let ns = s.trees.nodes in let n = c.seq.inside.number in
    let r = rw (← c.self.view_is, ← c.seq.view_is) at c.requires in
    let top_is = c.top.ensures ∙ ap Some c.in_ok-top.was in let top = c.in_ok-top.top in
    let R = rooted M.unit M.join v ns s.tops c.self.invariant.lists n top r.0 top_is r.1 in
    let h = (kept_sums M.unit M.join v ns n top R.tree R.kept).cells in
    rw c.nodes.ensures (top_within (length v.maps) ns top R.tree h)

pub nth_marked-number-requires : goal.nth_marked-number-requires
nth_marked-number-requires g c =
    let M = g.M.Summary in let s = c.self.inside in let v = s.cells in let ns = s.trees.nodes in let n = c.seq.inside.number in
    let r = rw (← c.self.view_is, ← c.seq.view_is) at c.requires in
    let top_is = c.top.ensures ∙ ap Some c.in_ok-top.was in let top = c.in_ok-top.top in
    let R = rooted M.unit M.join v ns s.tops c.self.invariant.lists n top r.0 top_is r.1 in
    let h = (kept_sums M.unit M.join v ns n top R.tree R.kept).cells in
    let same = ap (λ ks. (at ks top).counts.marked) c.nodes.ensures in
    (n, R.tree, R.kept.tree, omega (arith, c.if-k-nodes.true, same, top_marked (length v.maps) ns top R.tree h))

pub returns-then-k-nodes : goal.returns-then-k-nodes
returns-then-k-nodes g c = rw (← c.self.view_is, ← c.seq.view_is) (λ xs e.
    let M = g.M.Summary in let s = c.self.inside in let v = s.cells in let ns = s.trees.nodes in let n = c.seq.inside.number in
    let top_is = c.top.ensures ∙ ap Some c.in_ok-top.was in let top = c.in_ok-top.top in
    let R = rooted M.unit M.join v ns s.tops c.self.invariant.lists n top xs top_is e in
    let h = (kept_sums M.unit M.join v ns n top R.tree R.kept).cells in
    let same = ap (λ ks. (at ks top).counts.marked) c.nodes.ensures in
    let few : c.args.k < length (marked_items R.tree) = omega (arith, c.if-k-nodes.true, same, top_marked (length v.maps) ns top R.tree h) in
    let is = ap (λ ys. items (filter (λ e. e.marked) ys)) (sym R.entries_are) ∙ marked_are (map_at M.unit v) (leaves R.tree) in
    ap Some (c.nth_marked-number.ensures n R.tree R.kept.tree few) ∙ sym (get_some (marked_items R.tree) c.args.k few) ∙ ap (λ ys. slice_get ys c.args.k) (sym is))

pub returns-else-k-nodes : goal.returns-else-k-nodes
returns-else-k-nodes g c = rw (← c.self.view_is, ← c.seq.view_is) (λ xs e.
    let M = g.M.Summary in let s = c.self.inside in let v = s.cells in let ns = s.trees.nodes in let n = c.seq.inside.number in
    let top_is = c.top.ensures ∙ ap Some c.in_ok-top.was in let top = c.in_ok-top.top in
    let R = rooted M.unit M.join v ns s.tops c.self.invariant.lists n top xs top_is e in
    let h = (kept_sums M.unit M.join v ns n top R.tree R.kept).cells in
    let same = ap (λ ks. (at ks top).counts.marked) c.nodes.ensures in
    let is = ap (λ ys. items (filter (λ e. e.marked) ys)) (sym R.entries_are) ∙ marked_are (map_at M.unit v) (leaves R.tree) in
    sym (ap (λ ys. slice_get ys c.args.k) is ∙ get_none (marked_items R.tree) c.args.k (omega (arith, c.if-k-nodes.false, same, top_marked (length v.maps) ns top R.tree h))))
