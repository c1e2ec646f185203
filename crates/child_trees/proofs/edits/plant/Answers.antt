use Rattle.std.proofs.Common.{◌<◌, length, [], ◌∷◌, refl, sym, ap, subst, arith}
use Rattle.leaf_trees.specs.Tree.{leaf, item_of}
use Rattle.child_trees.specs.Cells.{map_at}
use Rattle.child_trees.proofs.Keeping.{all_stay, kept_not_free, entry_is}
use Rattle.child_trees.proofs.edits.plant.Goals as goal

pub set-requires-clause-slot : goal.set-requires-clause-slot
set-requires-clause-slot g c = let m = c.plant-item.ensures.tree in let w = (m.slots c.plant-item.result refl).within in omega (arith, w, c.requires.cells)

pub returns-clause-fresh : goal.returns-clause-fresh
returns-clause-fresh g c = c.plant-item.ensures.tree.slots c.plant-item.result refl

pub returns-clause-list : goal.returns-clause-list
returns-clause-list g c =
    let M = g.M.Summary in let v = c.args.cells.now in let w = c.set.new.self in
    let item = c.plant-item.result in
    let m = c.plant-item.ensures.tree in let s = c.set.ensures.map in
    let slot : item < length w.maps = (let q = (m.slots item refl).within in omega (arith, q, c.requires.cells, s.size)) in
    let e = entry_is (M.unit v.shape) (M.leaf c.args.source.now) (map_at M.unit w) item c.args.leaf c.flags.result c.flags.ensures s.changed in
    record {
      now = leaf (item_of item c.flags.result);
      kept = record { tree = m.tree; within = λ j h. subst (λ i. i < length w.maps) (sym h) slot; sums = tt };
      entries_are = ap (λ x. x ∷ []) e;
    }

pub returns-clause-lists : goal.returns-clause-lists
returns-clause-lists g c =
    let M = g.M.Summary in let v = c.args.cells.now in let w = c.set.new.self in let ns = c.args.trees.now.nodes in
    let item = c.plant-item.result in
    let m = c.plant-item.ensures.tree in let s = c.set.ensures.map in
    all_stay M.unit M.join v w ns c.plant-item.new.self.nodes m.others (omega (arith, s.size)) (λ p b u j k h. s.others j (kept_not_free M.unit M.join v ns p b u j item k (m.slots item refl) h)) s.shape
