use Rattle.std.proofs.Common.{◌+◌, ◌^◌, ◌<◌, ◌≤◌, length, insert, sym, ap, ◌∙◌, subst, arith}
use Rattle.std.proofs.lemmas.List.Edits.{length-insert}
use Rattle.leaf_trees.specs.Tree.{leaves, item_of, Has}
use Rattle.leaf_trees.proofs.Balanced.{length-leaves}
use Rattle.child_trees.specs.Cells.{map_at}
use Rattle.child_trees.specs.Sums.{HasCells, entry_of}
use Rattle.child_trees.specs.Kept.{HasList}
use Rattle.child_trees.proofs.Keeping.{now_cells, list_made, others_stay, now_low, along_sums, leaf_sums, entries_stay, kept_not_free, item_has, inserted_at, inserted_size, map-insert, entry_is}
use Rattle.child_trees.proofs.edits.insert_leaf.Goals as goal

pub insert-inserted-requires-clause-tree : goal.insert-inserted-requires-clause-tree
insert-inserted-requires-clause-tree g c = let r = c.requires.tree in (r.0, r.1, r.2.tree, r.3, r.4)

pub set-requires-clause-slot : goal.set-requires-clause-slot
set-requires-clause-slot g c = let w = c.insert-inserted.ensures.fresh.within in omega (arith, w, c.requires.cells)

pub sum_along-requires : goal.sum_along-requires
sum_along-requires g c =
    let M = g.M.Summary in let r = c.requires.tree in let v = c.args.cells.now in let v1 = c.set.new.self in
    let ns = c.args.trees.now.nodes in let ms = c.insert-inserted.new.self.nodes in
    let ch = c.insert-inserted.ensures.tree r.0 r.1 r.2.tree r.3 in
    let room : length ms ≤ length v1.maps = omega (arith, c.insert-inserted.ensures.len, c.requires.cells, c.set.ensures.map.size) in
    (ch.now, subst (λ ks. HasCells (length v1.maps) ks c.insert-inserted.result.top ch.now) (sym c.nodes.ensures) (now_cells M.unit M.join ns ms v v1 v1 r.0 c.insert-inserted.result.top c.args.place r.1 _ ch room))

pub returns-clause-list : goal.returns-clause-list
returns-clause-list g c = λ list t k le.
    let M = g.M.Summary in let v = c.args.cells.now in let v1 = c.set.new.self in let v2 = c.sum_along.new.cells in
    let f = map_at M.unit v in let f1 = map_at M.unit v1 in
    let ns = c.args.trees.now.nodes in let ms = c.insert-inserted.new.self.nodes in let top = c.insert-inserted.result.top in
    let item = c.insert-inserted.result.item in let x = item_of item c.flags.result in let s = c.set.ensures.map in
    let ch = c.insert-inserted.ensures.tree list t k.tree le in
    let room : length ms ≤ length v1.maps = omega (arith, c.insert-inserted.ensures.len, c.requires.cells, s.size) in
    let cells = subst (λ ks. HasCells (length v1.maps) ks top ch.now) (sym c.nodes.ensures) (now_cells M.unit M.join ns ms v v1 v2 list top c.args.place t _ ch room) in
    let few = inserted_size t ch.now c.args.place x ch.leaves_are le in
    let but = leaf_sums M.join f f1 c.args.place ch.now item ch.tree.has.apart (omega (arith, few, le)) (inserted_at t ch.now c.args.place x ch.leaves_are le) s.others (along_sums M.join f t c.args.place ch.now k.sums ch.along) in
    let made = list_made M.unit M.join ns ms v v1 v2 list top c.args.place t _ ch room c.sum_along.ensures.slots.size (c.sum_along.ensures.maps ch.now cells) (c.sum_along.ensures.sums ch.now cells but) in
    let old = entries_stay f f1 t (λ j h. s.others j (kept_not_free M.unit M.join v ns list c.args.top t j item k c.insert-inserted.ensures.fresh h)) in
    let e = entry_is (M.unit v.shape) (M.leaf c.args.source.now) f1 item c.args.leaf c.flags.result c.flags.ensures s.changed in
    subst (HasList M.unit M.join v2 ms list top) (map-insert (entry_of f1) (leaves t) c.args.place x ∙ (λ i. insert (old i) c.args.place (e i))) made

pub returns-clause-lists : goal.returns-clause-lists
returns-clause-lists g c = λ list t k le.
    let M = g.M.Summary in let v = c.args.cells.now in let v1 = c.set.new.self in let v2 = c.sum_along.new.cells in
    let ns = c.args.trees.now.nodes in let ms = c.insert-inserted.new.self.nodes in let top = c.insert-inserted.result.top in
    let item = c.insert-inserted.result.item in let x = item_of item c.flags.result in let s = c.set.ensures.map in
    let ch = c.insert-inserted.ensures.tree list t k.tree le in
    let room : length ms ≤ length v1.maps = omega (arith, c.insert-inserted.ensures.len, c.requires.cells, s.size) in
    let cells = subst (λ ks. HasCells (length v1.maps) ks top ch.now) (sym c.nodes.ensures) (now_cells M.unit M.join ns ms v v1 v2 list top c.args.place t _ ch room) in
    let few = inserted_size t ch.now c.args.place x ch.leaves_are le in
    let has = item_has ch.now c.args.place item (omega (arith, few, le)) (inserted_at t ch.now c.args.place x ch.leaves_are le) in
    others_stay M.unit M.join ns ms v v1 v2 list top c.args.place t _ ch room c.sum_along.ensures.slots.size (c.sum_along.ensures.maps ch.now cells) (sym s.size) (c.sum_along.ensures.slots.shape ∙ s.shape)
    (λ j n. s.others j (λ e. n (subst (Has ch.now) (sym e) has)))

pub returns-clause-steps : goal.returns-clause-steps
returns-clause-steps g c = λ list t k le b few.
    let M = g.M.Summary in let v = c.args.cells.now in let v1 = c.set.new.self in
    let ns = c.args.trees.now.nodes in let ms = c.insert-inserted.new.self.nodes in let top = c.insert-inserted.result.top in
    let x = item_of c.insert-inserted.result.item c.flags.result in
    let ch = c.insert-inserted.ensures.tree list t k.tree le in
    let room : length ms ≤ length v1.maps = omega (arith, c.insert-inserted.ensures.len, c.requires.cells, c.set.ensures.map.size) in
    let cells = subst (λ ks. HasCells (length v1.maps) ks top ch.now) (sym c.nodes.ensures) (now_cells M.unit M.join ns ms v v1 v1 list top c.args.place t _ ch room) in
    let l = length-insert (leaves t) c.args.place x (omega (arith, le, length-leaves t)) in
    let n = length-leaves t in
    let low = now_low M.unit M.join ns ms v v1 v1 list top c.args.place t _ ch room b (subst (λ m. m < 2 ^ b) (sym (l ∙ ap (λ m. m + 1) n)) few) in
    omega (arith, low, c.sum_along.ensures.steps ch.now cells, c.set.ensures.steps)
