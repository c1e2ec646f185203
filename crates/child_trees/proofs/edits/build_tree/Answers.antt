use Rattle.std.proofs.Common.{◌≡◌, List, length, map, refl, sym, ap, ◌∙◌, subst, arith}
use Rattle.std.proofs.lemmas.List.{length-map}
use Rattle.leaf_trees.specs.Tree.{leaves, flags_of}
use Rattle.leaf_trees.proofs.Balanced.{length-leaves}
use Rattle.leaf_trees.proofs.Forest.{has_within}
use Rattle.child_trees.specs.declared.leaf.Leaf.{Leaf}
use Rattle.child_trees.specs.Cells.{map_at}
use Rattle.child_trees.specs.Sums.{HasCells, entries}
use Rattle.child_trees.proofs.Building.{flags, are_entries, are_of_free}
use Rattle.child_trees.proofs.Keeping.{all_stay, kept_not_free}
use Rattle.child_trees.proofs.edits.build_tree.Goals as goal

many : {A : Type 0} (ls : List (Leaf A)) (fs : _) → fs ≡ map flags ls → length fs ≡ length ls
many ls fs e = ap length e ∙ length-map ls flags

pub build-top-requires : goal.build-top-requires
build-top-requires g c =
    let n = many c.args.leaves.now c.args.flags.now c.requires.flags in
    record { some = omega (arith, n, c.requires.some); few = omega (arith, n, c.requires.few); spare = omega (arith, n, c.requires.room) }

pub write_leaves-requires-clause-tree : goal.write_leaves-requires-clause-tree
write_leaves-requires-clause-tree g c =
    let b = c.build-top.ensures in let t = b.tree.0 in let m = b.tree.1 in
    let ms = c.build-top.new.self.nodes in let v = c.args.cells.now in
    let n = many c.args.leaves.now c.args.flags.now c.requires.flags in
    let k = sym (length-leaves t) ∙ sym (length-map (leaves t) flags_of) ∙ ap length b.tree.2 ∙ n in
    rw c.nodes.ensures (t, record { has = m.tree.has; within = λ j h. (let q = has_within ms t m.tree.has.holds j h in omega (arith, q, b.len, c.requires.cells)) }, k)

pub returns-clause-list : goal.returns-clause-list
returns-clause-list g c =
    let M = g.M.Summary in let v = c.args.cells.now in let w = c.write_leaves.new.cells in let f = map_at M.unit w in
    let b = c.build-top.ensures in let t = b.tree.0 in let m = b.tree.1 in
    let ns = c.args.trees.now.nodes in let ms = c.build-top.new.self.nodes in
    let n = many c.args.leaves.now c.args.flags.now c.requires.flags in
    let k = sym (length-leaves t) ∙ sym (length-map (leaves t) flags_of) ∙ ap length b.tree.2 ∙ n in
    let cells : HasCells (length v.maps) ms c.build-top.result t = record { has = m.tree.has; within = λ j h. (let q = has_within ms t m.tree.has.holds j h in omega (arith, q, b.len, c.requires.cells)) } in
    let h = subst (λ ks. HasCells (length v.maps) ks c.build-top.result t) (sym c.nodes.ensures) cells in
    let e = c.write_leaves.ensures in (
      entries f t,
      are_entries (M.unit v.shape) (M.leaf c.args.source.now) f c.args.leaves.now (leaves t) (b.tree.2 ∙ c.requires.flags) (e.maps t h k),
      are_of_free f ns ms c.args.list c.build-top.result t m,
      record { now = t; kept = record { tree = m.tree; within = λ j q. (let z = cells.within j q in omega (arith, z, e.slots.size)); sums = e.sums t h k }; entries_are = refl },
    )

pub returns-clause-lists : goal.returns-clause-lists
returns-clause-lists g c =
    let M = g.M.Summary in let v = c.args.cells.now in let w = c.write_leaves.new.cells in
    let b = c.build-top.ensures in let t = b.tree.0 in let m = b.tree.1 in
    let ns = c.args.trees.now.nodes in let ms = c.build-top.new.self.nodes in
    let cells : HasCells (length v.maps) ms c.build-top.result t = record { has = m.tree.has; within = λ j h. (let q = has_within ms t m.tree.has.holds j h in omega (arith, q, b.len, c.requires.cells)) } in
    let h = subst (λ ks. HasCells (length v.maps) ks c.build-top.result t) (sym c.nodes.ensures) cells in
    let e = c.write_leaves.ensures in
    all_stay M.unit M.join v w ns ms m.others (omega (arith, e.slots.size)) (λ p a u j k q. e.others t h j (λ z. kept_not_free M.unit M.join v ns p a u j j k (m.slots j z) q refl)) e.slots.shape

pub returns-clause-cells : goal.returns-clause-cells
returns-clause-cells g c = omega (arith, c.build-top.ensures.len, c.requires.cells, c.write_leaves.ensures.slots.size)

pub returns-clause-steps : goal.returns-clause-steps
returns-clause-steps g c = omega (arith, c.write_leaves.ensures.steps)

pub returns-clause-slots : goal.returns-clause-slots
returns-clause-slots g c =
    let n = many c.args.leaves.now c.args.flags.now c.requires.flags in
    (omega (arith, c.build-top.ensures.spare, n), c.build-top.ensures.len)
