use Rattle.std.proofs.Common.{◌+◌, length, Some, ap, ◌∙◌, subst, remove, arith}
use Rattle.std.proofs.lemmas.List.Edits.{length-remove}
use Rattle.child_trees.specs.Bits.{bits}
use Rattle.child_trees.specs.Cells.{map_at}
use Rattle.child_trees.specs.Sums.{entries}
use Rattle.child_trees.proofs.Along.{length-entries}
use Rattle.child_trees.proofs.Counting.{still_free}
use Rattle.child_trees.specs.Lists.{Updates}
use Rattle.child_trees.specs.Tops.{Writes}
use Rattle.child_trees.proofs.Digits.{bits_bound}
use Rattle.child_trees.proofs.Viewing.{seen, found, lies, home, rest_kept, rest_updates}
use Rattle.child_trees.proofs.seqs.Seqs.remove.Goals as goal

pub find-at-requires : goal.find-at-requires
find-at-requires g c =
    let M = g.M.Summary in let s = c.self.inside in let v = s.cells in let ns = s.trees.nodes in let item = c.item.inside.number in
    let r = rw (← c.self.view_is, ← c.item.view_is) at c.requires in
    let F = found M.unit M.join v ns s.tops c.self.invariant.lists item r.0 r.1 r.2 r.3 in
    (r.0, F.top, r.1, F.rooted.tree, lies M.unit M.join v ns s.tops item r.0 r.1 r.2 F)

pub remove_leaf-rest-requires-clause-tree : goal.remove_leaf-rest-requires-clause-tree
remove_leaf-rest-requires-clause-tree g c =
    let M = g.M.Summary in let s = c.self.inside in let v = s.cells in let ns = s.trees.nodes in let item = c.item.inside.number in
    let r = rw (← c.self.view_is, ← c.item.view_is) at c.requires in
    let H = home M.unit M.join v ns s.tops c.self.invariant.lists item r.0 r.1 r.2 r.3 c.find-at.result c.find-at.ensures in
    (r.0, H.tree, H.kept, H.place.within)

pub remove_leaf-rest-requires-clause-cells : goal.remove_leaf-rest-requires-clause-cells
remove_leaf-rest-requires-clause-cells g c = c.self.invariant.lists.cells

pub set-requires : goal.set-requires
set-requires g c =
    let M = g.M.Summary in let s = c.self.inside in let v = s.cells in let ns = s.trees.nodes in let item = c.item.inside.number in
    let r = rw (← c.self.view_is, ← c.item.view_is) at c.requires in
    let H = home M.unit M.join v ns s.tops c.self.invariant.lists item r.0 r.1 r.2 r.3 c.find-at.result c.find-at.ensures in
    (Some c.find-at.result.top, H.top_is)

pub invariant_of-self : goal.invariant_of-self
invariant_of-self g c =
    let M = g.M.Summary in let s = c.self.inside in let v = s.cells in let ns = s.trees.nodes in let item = c.item.inside.number in
    let r = rw (← c.self.view_is, ← c.item.view_is) at c.requires in
    let H = home M.unit M.join v ns s.tops c.self.invariant.lists item r.0 r.1 r.2 r.3 c.find-at.result c.find-at.ensures in
    let e = c.remove_leaf-rest.ensures in
    let w = subst (λ q. Writes s.tops c.set.new.self q (Some c.remove_leaf-rest.result)) H.list_is c.set.ensures in
    let ys = remove (entries (map_at M.unit v) H.tree) c.find-at.result.place in let inside = H.place.within in
    let list = e.list r.0 H.tree H.kept inside in let lists = e.lists r.0 H.tree H.kept inside in
    let u = rest_updates M.unit M.join v c.remove_leaf-rest.new.cells ns c.remove_leaf-rest.new.trees.nodes s.tops c.set.new.self r.0 ys c.remove_leaf-rest.result list c.self.invariant.lists lists w in
    let freed = e.slots r.0 H.tree H.kept inside in
    let many = length-entries (map_at M.unit v) H.tree in
    let fewer = length-remove (entries (map_at M.unit v) H.tree) c.find-at.result.place (omega (arith, inside, many)) in
    record {
      lists = rest_kept M.unit M.join v c.remove_leaf-rest.new.cells ns c.remove_leaf-rest.new.trees.nodes s.tops c.set.new.self r.0 ys c.remove_leaf-rest.result list c.self.invariant.lists lists w e.cells;
      slots = still_free (seen M.unit v ns s.tops) (seen M.unit c.remove_leaf-rest.new.cells c.remove_leaf-rest.new.trees.nodes c.set.new.self) r.0 (length ns) (length c.remove_leaf-rest.new.trees.nodes) s.trees.spare c.remove_leaf-rest.new.trees.spare (Some r.2) (Some ys) u r.3.list c.self.invariant.slots (omega (arith, freed.0, freed.1, many, fewer, H.size_is));
    }

pub returns-clause-change : goal.returns-clause-change
returns-clause-change g c = rw (← c.self.view_is, ← c.item.view_is) (λ q p xs i.
    let M = g.M.Summary in let s = c.self.inside in let v = s.cells in let ns = s.trees.nodes in let item = c.item.inside.number in
    let H = home M.unit M.join v ns s.tops c.self.invariant.lists item q p xs i c.find-at.result c.find-at.ensures in
    let e = c.remove_leaf-rest.ensures in
    let w = subst (λ q. Writes s.tops c.set.new.self q (Some c.remove_leaf-rest.result)) H.list_is c.set.ensures in
    let same = ap (λ ys. remove ys c.find-at.result.place) H.entries_are ∙ ap (remove xs) H.place_is in
    subst (λ ys. Updates (seen M.unit v ns s.tops) (seen M.unit c.remove_leaf-rest.new.cells c.remove_leaf-rest.new.trees.nodes c.set.new.self) q (Some ys)) same
    (rest_updates M.unit M.join v c.remove_leaf-rest.new.cells ns c.remove_leaf-rest.new.trees.nodes s.tops c.set.new.self q _ c.remove_leaf-rest.result (e.list q H.tree H.kept H.place.within) c.self.invariant.lists (e.lists q H.tree H.kept H.place.within) w))

pub returns-clause-steps : goal.returns-clause-steps
returns-clause-steps g c = rw (← c.self.view_is, ← c.item.view_is) (λ q p xs i.
    let M = g.M.Summary in let s = c.self.inside in let v = s.cells in let ns = s.trees.nodes in let item = c.item.inside.number in
    let H = home M.unit M.join v ns s.tops c.self.invariant.lists item q p xs i c.find-at.result c.find-at.ensures in
    let b = bits_bound (length xs + 1) in
    let steps = c.remove_leaf-rest.ensures.steps q H.tree H.kept H.place.within (bits (length xs + 1)) (omega (arith, b, H.size_is)) in
    omega (arith, steps))
