use Rattle.std.proofs.Common.{◌<◌, length, Some, sym, ap, ◌∙◌, arith}
use Rattle.std.specs.Prelude.{slice_get}
use Rattle.leaf_trees.specs.Tree.{size}
use Rattle.leaf_trees.specs.Arena.{at}
use Rattle.std.proofs.lemmas.List.{length-map}
use Rattle.leaf_trees.specs.Tree.{leaves}
use Rattle.leaf_trees.specs.Tree.{items as tree_items}
use Rattle.leaf_trees.proofs.Balanced.{length-leaves}
use Rattle.child_trees.specs.Lists.{items}
use Rattle.child_trees.proofs.Reading.{no_top, get_some, get_none}
use Rattle.child_trees.proofs.Split.{top_within, top_size}
use Rattle.child_trees.proofs.Viewing.{live_top, rooted, kept_sums, items_are}
use Rattle.child_trees.proofs.seqs.Seqs.at.Goals as goal

pub top-requires : goal.top-requires
top-requires g c =
    let M = g.M.Summary in let s = c.self.inside in let v = s.cells in let ns = s.trees.nodes in let n = c.seq.inside.number in
    let r = rw (← c.self.view_is, ← c.seq.view_is) at c.requires in
    let w = live_top M.unit M.join v ns s.tops n r.0 r.1 in
    (w.0, w.1)

pub returns-in_err-top : goal.returns-in_err-top
returns-in_err-top g c = rw (c.from_residual.ensures, ← c.self.view_is, ← c.seq.view_is) (λ xs e.
    let M = g.M.Summary in let s = c.self.inside in let v = s.cells in let ns = s.trees.nodes in let n = c.seq.inside.number in
    sym (ap (λ ys. slice_get (items ys) c.args.place) (no_top M.unit M.join v ns s.tops n xs (c.top.ensures ∙ ap Some c.in_err-top.was) e)))

pub bounds-nodes-top : goal.bounds-nodes-top
bounds-nodes-top g c =
    let M = g.M.Summary in let s = c.self.inside in let v = s.cells in let ns = s.trees.nodes in let n = c.seq.inside.number in
    let r = rw (← c.self.view_is, ← c.seq.view_is) at c.requires in
    let top_is = c.top.ensures ∙ ap Some c.in_ok-top.was in let top = c.in_ok-top.top in
    let R = rooted M.unit M.join v ns s.tops c.self.invariant.lists n top r.0 top_is r.1 in
    let h = (kept_sums M.unit M.join v ns n top R.tree R.kept).cells in
    rw c.nodes.ensures (top_within (length v.maps) ns top R.tree h)

pub item_at-number-requires : goal.item_at-number-requires
item_at-number-requires g c =
    let M = g.M.Summary in let s = c.self.inside in let v = s.cells in let ns = s.trees.nodes in let n = c.seq.inside.number in
    let r = rw (← c.self.view_is, ← c.seq.view_is) at c.requires in
    let top_is = c.top.ensures ∙ ap Some c.in_ok-top.was in let top = c.in_ok-top.top in
    let R = rooted M.unit M.join v ns s.tops c.self.invariant.lists n top r.0 top_is r.1 in
    let h = (kept_sums M.unit M.join v ns n top R.tree R.kept).cells in
    let same = ap (λ ks. (at ks top).counts.leaves) c.nodes.ensures in
    (n, R.tree, R.kept.tree, omega (arith, c.if-place-nodes.true, same, top_size (length v.maps) ns top R.tree h))

pub returns-then-place-nodes : goal.returns-then-place-nodes
returns-then-place-nodes g c = rw (← c.self.view_is, ← c.seq.view_is) (λ xs e.
    let M = g.M.Summary in let s = c.self.inside in let v = s.cells in let ns = s.trees.nodes in let n = c.seq.inside.number in
    let top_is = c.top.ensures ∙ ap Some c.in_ok-top.was in let top = c.in_ok-top.top in
    let R = rooted M.unit M.join v ns s.tops c.self.invariant.lists n top xs top_is e in
    let h = (kept_sums M.unit M.join v ns n top R.tree R.kept).cells in
    let same = ap (λ ks. (at ks top).counts.leaves) c.nodes.ensures in
    let few : c.args.place < size R.tree = omega (arith, c.if-place-nodes.true, same, top_size (length v.maps) ns top R.tree h) in
    let i = c.item_at-number.ensures n R.tree R.kept.tree few in
    let is = items_are M.unit M.join v ns s.tops R.tree xs R.entries_are in
    ap Some (sym i.is) ∙ sym (get_some (tree_items R.tree) c.args.place (omega (arith, few, length-map (leaves R.tree) (λ x. x.number), length-leaves R.tree))) ∙ ap (λ ys. slice_get ys c.args.place) (sym is))

pub returns-else-place-nodes : goal.returns-else-place-nodes
returns-else-place-nodes g c = rw (← c.self.view_is, ← c.seq.view_is) (λ xs e.
    let M = g.M.Summary in let s = c.self.inside in let v = s.cells in let ns = s.trees.nodes in let n = c.seq.inside.number in
    let top_is = c.top.ensures ∙ ap Some c.in_ok-top.was in let top = c.in_ok-top.top in
    let R = rooted M.unit M.join v ns s.tops c.self.invariant.lists n top xs top_is e in
    let h = (kept_sums M.unit M.join v ns n top R.tree R.kept).cells in
    let same = ap (λ ks. (at ks top).counts.leaves) c.nodes.ensures in
    sym (get_none (items xs) c.args.place (omega (arith, c.if-place-nodes.false, same, top_size (length v.maps) ns top R.tree h, R.size_is, length-map xs (λ e. e.item)))))
