use Rattle.std.proofs.Common.{◌^◌, ◌<◌, ◌≤◌, length, set, sym, ap, ◌∙◌, subst, arith}
use Rattle.std.specs.Prelude.{slice_index}
use Rattle.std.proofs.lemmas.List.{map-set, length-set}
use Rattle.leaf_trees.specs.Tree.{leaves, items, item_of, Has}
use Rattle.leaf_trees.proofs.Balanced.{length-leaves}
use Rattle.child_trees.specs.Cells.{map_at}
use Rattle.child_trees.specs.Lists.{entry}
use Rattle.child_trees.specs.Sums.{HasCells, entries, entry_of}
use Rattle.child_trees.specs.Kept.{HasList}
use Rattle.child_trees.proofs.Keeping.{now_cells, list_made, others_stay, now_low, along_sums, leaf_sums, item_has, written_at, written_size, write_entries, entry_is}
use Rattle.child_trees.proofs.edits.write_leaf.Goals as goal

pub set_flags-requires : goal.set_flags-requires
set_flags-requires g c = let r = c.requires.tree in (r.0, r.1, r.2.tree, r.3.within)

pub set-requires-clause-slot : goal.set-requires-clause-slot
set-requires-clause-slot g c = let r = c.requires.tree in r.2.within c.args.item (item_has r.1 c.args.place c.args.item r.3.within r.3.is)

pub sum_along-requires : goal.sum_along-requires
sum_along-requires g c =
    let M = g.M.Summary in let r = c.requires.tree in let v = c.args.cells.now in let v1 = c.set.new.self in
    let ns = c.args.trees.now.nodes in let ms = c.set_flags.new.self.nodes in
    let ch = c.set_flags.ensures.tree r.0 r.1 r.2.tree r.3.within in
    let room : length ms ≤ length v1.maps = omega (arith, c.set_flags.ensures.len, c.requires.cells, c.set.ensures.map.size) in
    (ch.now, subst (λ ks. HasCells (length v1.maps) ks c.args.top ch.now) (sym c.nodes.ensures) (now_cells M.unit M.join ns ms v v1 v1 r.0 c.args.top c.args.place r.1 _ ch room))

pub returns-clause-list : goal.returns-clause-list
returns-clause-list g c = λ list t k i.
    let M = g.M.Summary in let v = c.args.cells.now in let v1 = c.set.new.self in let v2 = c.sum_along.new.cells in
    let f = map_at M.unit v in let f1 = map_at M.unit v1 in let place = c.args.place in let top = c.args.top in
    let ns = c.args.trees.now.nodes in let ms = c.set_flags.new.self.nodes in
    let item = c.args.item in let s = c.set.ensures.map in
    let x = item_of (slice_index (items t) place) c.flags.result in
    let ch = c.set_flags.ensures.tree list t k.tree i.within in
    let room : length ms ≤ length v1.maps = omega (arith, c.set_flags.ensures.len, c.requires.cells, s.size) in
    let cells = subst (λ ks. HasCells (length v1.maps) ks top ch.now) (sym c.nodes.ensures) (now_cells M.unit M.join ns ms v v1 v2 list top place t _ ch room) in
    let few = written_size t ch.now place x ch.leaves_are in
    let at_place = written_at t ch.now place x ch.leaves_are i.within ∙ i.is in
    let but = leaf_sums M.join f f1 place ch.now item ch.tree.has.apart (omega (arith, few, i.within)) at_place s.others (along_sums M.join f t place ch.now k.sums ch.along) in
    let made = list_made M.unit M.join ns ms v v1 v2 list top place t _ ch room c.sum_along.ensures.slots.size (c.sum_along.ensures.maps ch.now cells) (c.sum_along.ensures.sums ch.now cells but) in
    let e = ap (λ n. entry_of f1 (item_of n c.flags.result)) i.is ∙ entry_is (M.unit v.shape) (M.leaf c.args.source.now) f1 item c.args.leaf c.flags.result c.flags.ensures s.changed in
    let old = write_entries f f1 place t item (entry (M.unit v.shape) (M.leaf c.args.source.now) item c.args.leaf) k.tree.has.apart i.within i.is s.others in
    subst (HasList M.unit M.join v2 ms list top) (map-set (entry_of f1) (leaves t) place x ∙ ap (set (entries f1 t) place) e ∙ old) made

pub returns-clause-lists : goal.returns-clause-lists
returns-clause-lists g c = λ list t k i.
    let M = g.M.Summary in let v = c.args.cells.now in let v1 = c.set.new.self in let v2 = c.sum_along.new.cells in
    let place = c.args.place in let top = c.args.top in
    let ns = c.args.trees.now.nodes in let ms = c.set_flags.new.self.nodes in
    let item = c.args.item in let s = c.set.ensures.map in
    let x = item_of (slice_index (items t) place) c.flags.result in
    let ch = c.set_flags.ensures.tree list t k.tree i.within in
    let room : length ms ≤ length v1.maps = omega (arith, c.set_flags.ensures.len, c.requires.cells, s.size) in
    let cells = subst (λ ks. HasCells (length v1.maps) ks top ch.now) (sym c.nodes.ensures) (now_cells M.unit M.join ns ms v v1 v2 list top place t _ ch room) in
    let few = written_size t ch.now place x ch.leaves_are in
    let has = item_has ch.now place item (omega (arith, few, i.within)) (written_at t ch.now place x ch.leaves_are i.within ∙ i.is) in
    others_stay M.unit M.join ns ms v v1 v2 list top place t _ ch room c.sum_along.ensures.slots.size (c.sum_along.ensures.maps ch.now cells) (sym s.size) (c.sum_along.ensures.slots.shape ∙ s.shape)
    (λ j n. s.others j (λ e. n (subst (Has ch.now) (sym e) has)))

pub returns-clause-steps : goal.returns-clause-steps
returns-clause-steps g c = λ list t k i b few.
    let M = g.M.Summary in let v = c.args.cells.now in let v1 = c.set.new.self in
    let place = c.args.place in let top = c.args.top in
    let ns = c.args.trees.now.nodes in let ms = c.set_flags.new.self.nodes in
    let x = item_of (slice_index (items t) place) c.flags.result in
    let ch = c.set_flags.ensures.tree list t k.tree i.within in
    let room : length ms ≤ length v1.maps = omega (arith, c.set_flags.ensures.len, c.requires.cells, c.set.ensures.map.size) in
    let cells = subst (λ ks. HasCells (length v1.maps) ks top ch.now) (sym c.nodes.ensures) (now_cells M.unit M.join ns ms v v1 v1 list top place t _ ch room) in
    let l = length-set (leaves t) place x in
    let n = length-leaves t in
    let low = now_low M.unit M.join ns ms v v1 v1 list top place t _ ch room b (subst (λ m. m < 2 ^ b) (sym (l ∙ n)) few) in
    omega (arith, low, c.sum_along.ensures.steps ch.now cells, c.set.ensures.steps)
