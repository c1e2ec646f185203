use Rattle.std.proofs.Common.{◌++◌, Some, sym, ap, ◌∙◌}
use Rattle.leaf_trees.specs.Tree.{items as tree_items}
use Rattle.child_trees.specs.Lists as lists
use Rattle.child_trees.proofs.Reading.{no_top}
use Rattle.child_trees.proofs.Viewing.{live_top, rooted, items_are}
use Rattle.child_trees.proofs.seqs.Seqs.items.Goals as goal

pub top-requires : goal.top-requires
top-requires g c =
    let M = g.M.Summary in let s = c.self.inside in let v = s.cells in let ns = s.trees.nodes in let n = c.seq.inside.number in
    let r = rw (← c.self.view_is, ← c.seq.view_is) at c.requires in
    let w = live_top M.unit M.join v ns s.tops n r.0 r.1 in
    (w.0, w.1)

pub returns-in-None : goal.returns-in-None
returns-in-None g c = rw (← c.self.view_is, ← c.seq.view_is) (λ xs e.
    let M = g.M.Summary in let s = c.self.inside in let v = s.cells in let ns = s.trees.nodes in let n = c.seq.inside.number in
    c.new.ensures.items ∙ sym (ap lists.items (no_top M.unit M.join v ns s.tops n xs (c.top.ensures ∙ ap Some c.in-None.is) e)))

pub push_items-requires : goal.push_items-requires
push_items-requires g c =
    let M = g.M.Summary in let s = c.self.inside in let v = s.cells in let ns = s.trees.nodes in let n = c.seq.inside.number in
    let r = rw (← c.self.view_is, ← c.seq.view_is) at c.requires in
    let R = rooted M.unit M.join v ns s.tops c.self.invariant.lists n c.in-Some.top r.0 (c.top.ensures ∙ ap Some c.in-Some.is) r.1 in
    rw c.nodes-in-Some.ensures (R.tree, R.kept.tree.has)

pub returns-in_ok-push_items-in-Some : goal.returns-in_ok-push_items-in-Some
returns-in_ok-push_items-in-Some g c = rw (← c.self.view_is, ← c.seq.view_is) (λ xs e.
    let M = g.M.Summary in let s = c.self.inside in let v = s.cells in let ns = s.trees.nodes in let n = c.seq.inside.number in
    let R = rooted M.unit M.join v ns s.tops c.self.invariant.lists n c.in-Some.top xs (c.top.ensures ∙ ap Some c.in-Some.is) e in
    let all = rw c.nodes-in-Some.ensures at c.in_ok-push_items-in-Some.ensures in
    all R.tree R.kept.tree.has ∙ ap (λ ys. ys ++ tree_items R.tree) c.in_ok-found-in-Some.ensures.items ∙ sym (items_are M.unit M.join v ns s.tops R.tree xs R.entries_are))
