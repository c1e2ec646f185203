use Rattle.std.proofs.Common.{◌≡◌, ◌+◌, length, Some, ap, ◌∙◌, subst, set, arith}
use Rattle.std.proofs.lemmas.List.{length-set}
use Rattle.child_trees.specs.Bits.{bits}
use Rattle.child_trees.specs.Cells.{map_at}
use Rattle.child_trees.specs.Sums.{entries}
use Rattle.child_trees.proofs.Along.{length-entries}
use Rattle.child_trees.proofs.Counting.{still_free}
use Rattle.child_trees.specs.Lists.{Updates, entry}
use Rattle.child_trees.specs.Tops.{top_at}
use Rattle.child_trees.proofs.Digits.{bits_bound}
use Rattle.child_trees.proofs.Viewing.{seen, found, lies, home, writes_same, kept_tree, updates_tree}
use Rattle.child_trees.proofs.seqs.Seqs.update.Goals as goal

pub find-at-requires : goal.find-at-requires
find-at-requires g c =
    let M = g.M.Summary in let s = c.self.inside in let v = s.cells in let ns = s.trees.nodes in let item = c.item.inside.number in
    let r = rw (← c.self.view_is, ← c.item.view_is) at c.requires.item in
    let F = found M.unit M.join v ns s.tops c.self.invariant.lists item r.0 r.1 r.2 r.3 in
    (r.0, F.top, r.1, F.rooted.tree, lies M.unit M.join v ns s.tops item r.0 r.1 r.2 F)

pub write_leaf-requires-clause-tree : goal.write_leaf-requires-clause-tree
write_leaf-requires-clause-tree g c =
    let M = g.M.Summary in let s = c.self.inside in let v = s.cells in let ns = s.trees.nodes in let item = c.item.inside.number in
    let r = rw (← c.self.view_is, ← c.item.view_is) at c.requires.item in
    let H = home M.unit M.join v ns s.tops c.self.invariant.lists item r.0 r.1 r.2 r.3 c.find-at.result c.find-at.ensures in
    (r.0, H.tree, H.kept, H.place)

pub write_leaf-requires-clause-cells : goal.write_leaf-requires-clause-cells
write_leaf-requires-clause-cells g c = c.self.invariant.lists.cells

pub write_leaf-requires-clause-fits : goal.write_leaf-requires-clause-fits
write_leaf-requires-clause-fits g c = rw (← c.self.view_is) at c.requires.fits

pub invariant_of-self : goal.invariant_of-self
invariant_of-self g c =
    let M = g.M.Summary in let s = c.self.inside in let v = s.cells in let ns = s.trees.nodes in let item = c.item.inside.number in
    let r = rw (← c.self.view_is, ← c.item.view_is) at c.requires.item in
    let H = home M.unit M.join v ns s.tops c.self.invariant.lists item r.0 r.1 r.2 r.3 c.find-at.result c.find-at.ensures in
    let e = c.write_leaf.ensures in
    let w = writes_same M.unit M.join s.tops r.0 (Some (Some c.find-at.result.top)) (subst (λ q. top_at s.tops q ≡ Some (Some c.find-at.result.top)) H.list_is H.top_is) in
    let new = entry (M.unit v.shape) (M.leaf c.args.source.now) item c.args.leaf in
    let ys = set (entries (map_at M.unit v) H.tree) c.find-at.result.place new in
    let list = e.list r.0 H.tree H.kept H.place in let lists = e.lists r.0 H.tree H.kept H.place in
    let u = updates_tree M.unit M.join v c.write_leaf.new.cells ns c.write_leaf.new.trees.nodes s.tops s.tops r.0 c.find-at.result.top ys c.self.invariant.lists lists w list in
    let many = length-entries (map_at M.unit v) H.tree in
    let same = length-set (entries (map_at M.unit v) H.tree) c.find-at.result.place new in
    record {
      lists = kept_tree M.unit M.join v c.write_leaf.new.cells ns c.write_leaf.new.trees.nodes s.tops s.tops r.0 c.find-at.result.top ys c.self.invariant.lists lists w list e.cells;
      slots = still_free (seen M.unit v ns s.tops) (seen M.unit c.write_leaf.new.cells c.write_leaf.new.trees.nodes s.tops) r.0 (length ns) (length c.write_leaf.new.trees.nodes) s.trees.spare c.write_leaf.new.trees.spare (Some r.2) (Some ys) u r.3.list c.self.invariant.slots (omega (arith, e.slots.0, e.slots.1, many, same, H.size_is));
    }

pub returns-clause-change : goal.returns-clause-change
returns-clause-change g c = rw (← c.self.view_is, ← c.item.view_is) (λ q p xs i.
    let M = g.M.Summary in let s = c.self.inside in let v = s.cells in let ns = s.trees.nodes in let item = c.item.inside.number in
    let H = home M.unit M.join v ns s.tops c.self.invariant.lists item q p xs i c.find-at.result c.find-at.ensures in
    let e = c.write_leaf.ensures in
    let w = writes_same M.unit M.join s.tops q (Some (Some c.find-at.result.top)) (subst (λ q. top_at s.tops q ≡ Some (Some c.find-at.result.top)) H.list_is H.top_is) in
    let new = entry (M.unit v.shape) (M.leaf c.args.source.now) item c.args.leaf in
    let same = ap (λ ys. set ys c.find-at.result.place new) H.entries_are ∙ ap (λ z. set xs z new) H.place_is in
    subst (λ ys. Updates (seen M.unit v ns s.tops) (seen M.unit c.write_leaf.new.cells c.write_leaf.new.trees.nodes s.tops) q (Some ys)) same
    (updates_tree M.unit M.join v c.write_leaf.new.cells ns c.write_leaf.new.trees.nodes s.tops s.tops q c.find-at.result.top _ c.self.invariant.lists (e.lists q H.tree H.kept H.place) w (e.list q H.tree H.kept H.place)))

pub returns-clause-steps : goal.returns-clause-steps
returns-clause-steps g c = rw (← c.self.view_is, ← c.item.view_is) (λ q p xs i.
    let M = g.M.Summary in let s = c.self.inside in let v = s.cells in let ns = s.trees.nodes in let item = c.item.inside.number in
    let H = home M.unit M.join v ns s.tops c.self.invariant.lists item q p xs i c.find-at.result c.find-at.ensures in
    let b = bits_bound (length xs + 1) in
    let steps = c.write_leaf.ensures.steps q H.tree H.kept H.place (bits (length xs + 1)) (omega (arith, b, H.size_is)) in
    omega (arith, steps))
