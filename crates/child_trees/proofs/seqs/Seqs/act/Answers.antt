use Rattle.std.proofs.Common.{sym, ap, ◌∙◌, arith}
use Rattle.leaf_trees.specs.Tree.{leaves}
use Rattle.child_trees.specs.Cells.{map_at}
use Rattle.child_trees.proofs.Ordering.{act_is}
use Rattle.child_trees.proofs.Viewing.{found, item_within}
use Rattle.child_trees.proofs.seqs.Seqs.act.Goals as goal

pub act-requires-clause-slot : goal.act-requires-clause-slot
act-requires-clause-slot g c =
    let M = g.M.Summary in let s = c.self.inside in let v = s.cells in let ns = s.trees.nodes in let item = c.item.inside.number in
    let r = rw (← c.self.view_is, ← c.item.view_is) at c.requires.item in
    let low = item_within M.unit M.join v ns s.tops c.self.invariant.lists item r in
    let cells = c.self.invariant.lists.cells in
    omega (arith, low, cells)

pub act-requires-clause-state : goal.act-requires-clause-state
act-requires-clause-state g c = rw (← c.self.view_is) at c.requires.state

pub returns-clause-value : goal.returns-clause-value
returns-clause-value g c = rw (← c.self.view_is, ← c.item.view_is) (λ e z.
    let M = g.M.Summary in let s = c.self.inside in let v = s.cells in let ns = s.trees.nodes in let item = c.item.inside.number in
    let F = found M.unit M.join v ns s.tops c.self.invariant.lists item z.list z.place z.entries z.at in
    c.act.ensures.value ∙ ap (λ m. M.acts m c.args.state) (sym (act_is (map_at M.unit v) (leaves F.rooted.tree) z.entries z.place item e F.rooted.entries_are z.is z.at.item_is)))

pub returns-clause-state : goal.returns-clause-state
returns-clause-state g c = rw (← c.self.view_is) c.act.ensures.state
