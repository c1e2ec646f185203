use Rattle.std.proofs.Common.{◌≤◌, length, refl, sym, ◌∙◌, subst, arith}
use Rattle.std.proofs.lemmas.List.Edits.{length-remove}
use Rattle.leaf_trees.specs.Tree.{leaves}
use Rattle.leaf_trees.proofs.Balanced.{length-leaves}
use Rattle.leaf_trees.proofs.Held.{positive}
use Rattle.child_trees.specs.Cells.{map_at}
use Rattle.child_trees.specs.Sums.{HasCells, entries, entry_of}
use Rattle.child_trees.specs.Kept.{HasList}
use Rattle.child_trees.proofs.Along.{length-entries}
use Rattle.child_trees.proofs.Keeping.{now_cells, list_made, others_stay, now_low, along_sums, kept_stays, map-remove, removed_all, removed_size}
use Rattle.child_trees.proofs.edits.remove_leaf.Goals as goal

pub remove-requires : goal.remove-requires
remove-requires g c = let r = c.requires.tree in (r.0, r.1, r.2.tree, r.3)

pub returns-in_err-rest-clause-list : goal.returns-in_err-rest-clause-list
returns-in_err-rest-clause-list g c = rw c.from_residual.ensures (λ list t k lt.
    let M = g.M.Summary in let f = map_at M.unit c.args.cells.now in
    let one = c.in_err-rest.ensures.tree list t k.tree lt in
    removed_all (entries f t) c.args.place (length-entries f t ∙ one.0) (omega (arith, lt, length-entries f t)))

pub returns-in_err-rest-clause-lists : goal.returns-in_err-rest-clause-lists
returns-in_err-rest-clause-lists g c = λ list t k lt.
    let M = g.M.Summary in let v = c.args.cells.now in let ns = c.args.trees.now.nodes in let ms = c.remove.new.self.nodes in
    let one = c.in_err-rest.ensures.tree list t k.tree lt in
    record { kept = λ p b u n q. kept_stays M.unit M.join v v ns ms p b u q (one.1 p b u n q.tree) (omega arith) (λ j h. refl); same = λ p b u n q. refl; shape = refl }

pub sum_along-requires : goal.sum_along-requires
sum_along-requires g c =
    let M = g.M.Summary in let r = c.requires.tree in let v = c.args.cells.now in
    let ns = c.args.trees.now.nodes in let ms = c.remove.new.self.nodes in let top = c.in_ok-rest.rest.top in
    let ch = c.in_ok-rest.ensures.tree r.0 r.1 r.2.tree r.3 in
    let room : length ms ≤ length v.maps = omega (arith, c.remove.ensures.len, c.requires.cells) in
    (ch.now, subst (λ ks. HasCells (length v.maps) ks top ch.now) (sym c.nodes.ensures) (now_cells M.unit M.join ns ms v v v r.0 top c.in_ok-rest.rest.place r.1 _ ch room))

pub returns-clause-list : goal.returns-clause-list
returns-clause-list g c = λ list t k lt.
    let M = g.M.Summary in let v = c.args.cells.now in let v2 = c.sum_along.new.cells in let f = map_at M.unit v in
    let ns = c.args.trees.now.nodes in let ms = c.remove.new.self.nodes in let top = c.in_ok-rest.rest.top in let place = c.in_ok-rest.rest.place in
    let ch = c.in_ok-rest.ensures.tree list t k.tree lt in
    let room : length ms ≤ length v.maps = omega (arith, c.remove.ensures.len, c.requires.cells) in
    let cells = subst (λ ks. HasCells (length v.maps) ks top ch.now) (sym c.nodes.ensures) (now_cells M.unit M.join ns ms v v v2 list top place t _ ch room) in
    let but = along_sums M.join f t place ch.now k.sums ch.along in
    let made = list_made M.unit M.join ns ms v v v2 list top place t _ ch room c.sum_along.ensures.slots.size (c.sum_along.ensures.maps ch.now cells) (c.sum_along.ensures.sums ch.now cells but) in
    subst (HasList M.unit M.join v2 ms list top) (map-remove (entry_of f) (leaves t) c.args.place) made

pub returns-clause-lists : goal.returns-clause-lists
returns-clause-lists g c = λ list t k lt.
    let M = g.M.Summary in let v = c.args.cells.now in let v2 = c.sum_along.new.cells in
    let ns = c.args.trees.now.nodes in let ms = c.remove.new.self.nodes in let top = c.in_ok-rest.rest.top in let place = c.in_ok-rest.rest.place in
    let ch = c.in_ok-rest.ensures.tree list t k.tree lt in
    let room : length ms ≤ length v.maps = omega (arith, c.remove.ensures.len, c.requires.cells) in
    let cells = subst (λ ks. HasCells (length v.maps) ks top ch.now) (sym c.nodes.ensures) (now_cells M.unit M.join ns ms v v v2 list top place t _ ch room) in
    others_stay M.unit M.join ns ms v v v2 list top place t _ ch room c.sum_along.ensures.slots.size (c.sum_along.ensures.maps ch.now cells) refl c.sum_along.ensures.slots.shape (λ j n. refl)

pub returns-clause-steps : goal.returns-clause-steps
returns-clause-steps g c = λ list t k lt b few.
    let M = g.M.Summary in let v = c.args.cells.now in
    let ns = c.args.trees.now.nodes in let ms = c.remove.new.self.nodes in let top = c.in_ok-rest.rest.top in let place = c.in_ok-rest.rest.place in
    let ch = c.in_ok-rest.ensures.tree list t k.tree lt in
    let room : length ms ≤ length v.maps = omega (arith, c.remove.ensures.len, c.requires.cells) in
    let cells = subst (λ ks. HasCells (length v.maps) ks top ch.now) (sym c.nodes.ensures) (now_cells M.unit M.join ns ms v v v list top place t _ ch room) in
    let n = length-leaves t in
    let l = length-remove (leaves t) c.args.place (omega (arith, lt, n)) in
    let low = now_low M.unit M.join ns ms v v v list top place t _ ch room b (omega (arith, l, n, few)) in
    omega (arith, low, c.sum_along.ensures.steps ch.now cells)

pub returns-in_err-rest-clause-slots : goal.returns-in_err-rest-clause-slots
returns-in_err-rest-clause-slots g c = λ list t k lt.
    let one = c.in_err-rest.ensures.tree list t k.tree lt in
    (omega (arith, one.0, c.in_err-rest.ensures.spare), c.remove.ensures.len)

pub returns-clause-slots : goal.returns-clause-slots
returns-clause-slots g c = λ list t k lt.
    let ch = c.in_ok-rest.ensures.tree list t k.tree lt in
    let fewer = removed_size t ch.now c.args.place ch.leaves_are lt in
    (omega (arith, fewer, positive ch.now, c.in_ok-rest.ensures.spare), c.remove.ensures.len)
