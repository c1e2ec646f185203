use Rattle.child_trees.proofs.Viewing.{found, lies, home, lies_once}
use Rattle.child_trees.proofs.seqs.Seqs.place_of.Goals as goal

pub find-requires : goal.find-requires
find-requires g c =
    let M = g.M.Summary in let s = c.self.inside in let v = s.cells in let ns = s.trees.nodes in let item = c.item.inside.number in
    let r = rw (← c.self.view_is, ← c.item.view_is) at c.requires in
    let F = found M.unit M.join v ns s.tops c.self.invariant.lists item r.0 r.1 r.2 r.3 in
    (r.0, F.top, r.1, F.rooted.tree, lies M.unit M.join v ns s.tops item r.0 r.1 r.2 F)

pub returns-clause-place : goal.returns-clause-place
returns-clause-place g c = rw (← c.self.view_is, ← c.item.view_is) (λ q p xs i.
    let M = g.M.Summary in let s = c.self.inside in let v = s.cells in let ns = s.trees.nodes in let item = c.item.inside.number in
    let H = home M.unit M.join v ns s.tops c.self.invariant.lists item q p xs i c.find.result c.find.ensures in
    H.place_is)

pub returns-clause-once : goal.returns-clause-once
returns-clause-once g c = rw (← c.self.view_is, ← c.item.view_is) (
    let M = g.M.Summary in let s = c.self.inside in let v = s.cells in let ns = s.trees.nodes in let item = c.item.inside.number in
    lies_once M.unit M.join v ns s.tops c.self.invariant.lists item c.find.result c.find.ensures)
