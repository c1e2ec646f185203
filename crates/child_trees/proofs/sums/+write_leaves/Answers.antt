use Rattle.std.proofs.Common.{◌≡◌, ◌<◌, [], ◌∷◌, ◌++◌, length, map, take, drop, sym, ap, ◌∙◌, subst, inl, inr, arith, rules}
use Rattle.std.specs.Prelude.{All}
use Rattle.std.specs.Option.{ForSome}
use Rattle.std.proofs.lemmas.List.{map-append, take-append-drop}
use Rattle.std.proofs.lemmas.List.Elements.{All-take, All-drop}
use Rattle.leaf_trees.specs.Tree.{Item, Tree, size, leaves, Has}
use Rattle.leaf_trees.specs.Arena.{at}
use Rattle.leaf_trees.proofs.Held.{Has-root, positive}
use Rattle.child_trees.specs.declared.leaf.Leaf.{Leaf}
use Rattle.child_trees.specs.Cells.{map_at}
use Rattle.child_trees.specs.Lists.{map_by}
use Rattle.child_trees.specs.Sums.{AreSums, HasCells}
use Rattle.child_trees.proofs.Building.{one_list}
use Rattle.child_trees.proofs.Keeping.{leaves_stay}
use Rattle.child_trees.proofs.Split.{top_has_cell, top_not_left, top_not_right, sides, one_leaf}
use Rattle.child_trees.proofs.Summing.{has_slots, sums_stay, sum_made, left_not_top, right_not_top, same_slots, set_slots}
use Rattle.child_trees.proofs.sums.+write_leaves.Goals as goal

pub bounds-leaves-0 : goal.bounds-leaves-0
bounds-leaves-0 g t c =
    let r = c.requires.tree in let n = length c.args.cells.now.maps in let ns = c.args.nodes.now in let ls = c.args.leaves.now in
    omega (arith, r.2, positive r.0)

pub set-requires-clause-slot : goal.set-requires-clause-slot
set-requires-clause-slot g t c =
    let r = c.requires.tree in let n = length c.args.cells.now.maps in let ns = c.args.nodes.now in let ls = c.args.leaves.now in
    top_has_cell n ns c.args.top r.0 r.1

pub set-requires-clause-fits : goal.set-requires-clause-fits
set-requires-clause-fits g t c =
    let M = g.M.Summary in
    let r = c.requires.tree in let n = length c.args.cells.now.maps in let ns = c.args.nodes.now in let ls = c.args.leaves.now in
    let some : 0 < length ls = omega (arith, r.2, positive r.0) in
    let leaf = c.index-leaves-0.result in
    subst (λ (l : Leaf g.row.M-Letter.Denot). ForSome l.letter (M.fits c.args.cells.now.shape c.args.source.now)) (sym c.index-leaves-0.is) (c.requires.fits 0 leaf some)

pub returns-then-node-eq0-clause-sums : goal.returns-then-node-eq0-clause-sums
returns-then-node-eq0-clause-sums g t c = λ x h e.
    let M = g.M.Summary in let n = length c.args.cells.now.maps in let ns = c.args.nodes.now in
    let o = one_leaf n ns c.args.top x h c.if-node-eq0.true in
    subst (AreSums M.join (map_at M.unit c.set.new.self)) (sym o.is) tt

pub returns-then-node-eq0-clause-maps : goal.returns-then-node-eq0-clause-maps
returns-then-node-eq0-clause-maps g t c = λ x h e.
    let M = g.M.Summary in let n = length c.args.cells.now.maps in let ns = c.args.nodes.now in
    let f = map_at M.unit c.set.new.self in let K = λ (l : Leaf g.row.M-Letter.Denot). map_by (M.unit c.args.cells.now.shape) (M.leaf c.args.source.now) l.letter in
    let o = one_leaf n ns c.args.top x h c.if-node-eq0.true in
    let one = one_list c.args.leaves.now c.index-leaves-0.result (omega (arith, e, ap size o.is)) c.index-leaves-0.is in
    ap (λ z. map (λ (y : Item). f y.number) (leaves z)) o.is ∙ ap (λ i. f i ∷ []) o.number ∙ ap (λ m. m ∷ []) c.set.ensures.map.changed ∙ ap (map K) (sym one)

pub returns-then-node-eq0-clause-others : goal.returns-then-node-eq0-clause-others
returns-then-node-eq0-clause-others g t c = λ x h j a.
    c.set.ensures.map.others j (λ e. a (subst (Has x) (h.has.top_is ∙ sym e) (Has-root x)))

pub returns-then-node-eq0-clause-slots : goal.returns-then-node-eq0-clause-slots
returns-then-node-eq0-clause-slots g t c = set_slots g.M.Summary.unit _ _ _ _ c.set.ensures.map

pub returns-then-node-eq0-clause-steps : goal.returns-then-node-eq0-clause-steps
returns-then-node-eq0-clause-steps g t c =
    let r = c.requires.tree in let n = length c.args.cells.now.maps in let ns = c.args.nodes.now in let ls = c.args.leaves.now in
    omega (arith, c.set.ensures.steps, r.2, positive r.0)

pub split_at-requires : goal.split_at-requires
split_at-requires g t c =
    let r = c.requires.tree in let n = length c.args.cells.now.maps in let ns = c.args.nodes.now in let ls = c.args.leaves.now in
    let s = sides n ns c.args.top r.0 r.1 (omega (arith, c.if-node-eq0.false)) in
    omega (arith, s.left_size, r.2, ap size s.is)

pub write_leaves-requires : goal.write_leaves-requires
write_leaves-requires g t c κs within =
    let M = g.M.Summary in
    let r = c.requires.tree in let n = length c.args.cells.now.maps in let ns = c.args.nodes.now in let ls = c.args.leaves.now in
    let s = sides n ns c.args.top r.0 r.1 (omega (arith, c.if-node-eq0.false)) in
    let lower = s.left_lower in
    let front = c.split_at.result.0.now in
    let el : size s.l ≡ length front = omega (arith, c.split_at.ensures.front_len, s.left_size) in
    let w : (x : Tree) × HasCells n ns (at ns c.args.top).left x × (size x ≡ length front) = (s.l, s.left, el) in
    let P = λ (l : Leaf g.row.M-Letter.Denot). ForSome l.letter (M.fits c.args.cells.now.shape c.args.source.now) in
    let fits : All P front = subst (All P) (sym c.split_at.ensures.front) (All-take P _ ls c.requires.fits) in
    search rules

pub write_leaves-requires-2 : goal.write_leaves-requires-2
write_leaves-requires-2 g t c κs within =
    let M = g.M.Summary in
    let r = c.requires.tree in let n = length c.args.cells.now.maps in let ns = c.args.nodes.now in let ls = c.args.leaves.now in
    let s = sides n ns c.args.top r.0 r.1 (omega (arith, c.if-node-eq0.false)) in
    let lower = s.right_lower in
    let back = c.split_at.result.1.now in let v1 = c.write_leaves.new.cells in
    let er : size s.r ≡ length back = omega (arith, c.split_at.ensures.back_len, s.left_size, r.2, ap size s.is) in
    let right = has_slots _ _ ns (at ns c.args.top).right s.r c.write_leaves.ensures.slots s.right in
    let w : (x : Tree) × HasCells (length v1.maps) ns (at ns c.args.top).right x × (size x ≡ length back) = (s.r, right, er) in
    let P = λ (l : Leaf g.row.M-Letter.Denot). ForSome l.letter (M.fits c.args.cells.now.shape c.args.source.now) in
    let old : All P back = subst (All P) (sym c.split_at.ensures.back) (All-drop P _ ls c.requires.fits) in
    let fits : All (λ (l : Leaf g.row.M-Letter.Denot). ForSome l.letter (M.fits v1.shape c.args.source.now)) back = subst (λ h. All (λ (l : Leaf g.row.M-Letter.Denot). ForSome l.letter (M.fits h c.args.source.now)) back) (sym c.write_leaves.ensures.slots.shape) old in
    search rules

pub join-requires-clause-left : goal.join-requires-clause-left
join-requires-clause-left g t c =
    let r = c.requires.tree in let n = length c.args.cells.now.maps in let ns = c.args.nodes.now in let ls = c.args.leaves.now in
    let s = sides n ns c.args.top r.0 r.1 (omega (arith, c.if-node-eq0.false)) in
    let w = top_has_cell n ns (at ns c.args.top).left s.l s.left in omega (arith, w, c.write_leaves.ensures.slots.size, c.write_leaves-2.ensures.slots.size)

pub join-requires-clause-not_left : goal.join-requires-clause-not_left
join-requires-clause-not_left g t c =
    let r = c.requires.tree in let n = length c.args.cells.now.maps in let ns = c.args.nodes.now in let ls = c.args.leaves.now in
    let s = sides n ns c.args.top r.0 r.1 (omega (arith, c.if-node-eq0.false)) in
    top_not_left n ns c.args.top r.0 s

pub join-requires-clause-right : goal.join-requires-clause-right
join-requires-clause-right g t c =
    let r = c.requires.tree in let n = length c.args.cells.now.maps in let ns = c.args.nodes.now in let ls = c.args.leaves.now in
    let s = sides n ns c.args.top r.0 r.1 (omega (arith, c.if-node-eq0.false)) in
    let w = top_has_cell n ns (at ns c.args.top).right s.r s.right in omega (arith, w, c.write_leaves.ensures.slots.size, c.write_leaves-2.ensures.slots.size)

pub join-requires-clause-not_right : goal.join-requires-clause-not_right
join-requires-clause-not_right g t c =
    let r = c.requires.tree in let n = length c.args.cells.now.maps in let ns = c.args.nodes.now in let ls = c.args.leaves.now in
    let s = sides n ns c.args.top r.0 r.1 (omega (arith, c.if-node-eq0.false)) in
    top_not_right n ns c.args.top r.0 s

pub join-requires-clause-into : goal.join-requires-clause-into
join-requires-clause-into g t c =
    let r = c.requires.tree in let n = length c.args.cells.now.maps in let ns = c.args.nodes.now in let ls = c.args.leaves.now in
    let w = top_has_cell n ns c.args.top r.0 r.1 in omega (arith, w, c.write_leaves.ensures.slots.size, c.write_leaves-2.ensures.slots.size)

pub returns-clause-sums : goal.returns-clause-sums
returns-clause-sums g t c = λ x h e.
    let M = g.M.Summary in let n = length c.args.cells.now.maps in let ns = c.args.nodes.now in let ls = c.args.leaves.now in
    let s = sides n ns c.args.top x h (omega (arith, c.if-node-eq0.false)) in
    let right = has_slots _ _ ns (at ns c.args.top).right s.r c.write_leaves.ensures.slots s.right in
    let f0 = map_at M.unit c.args.cells.now in let f1 = map_at M.unit c.write_leaves.new.cells in let f2 = map_at M.unit c.write_leaves-2.new.cells in let f3 = map_at M.unit c.join.new.self in let m = c.join.ensures.map in
    let el : size s.l ≡ length c.split_at.result.0.now = omega (arith, c.split_at.ensures.front_len, s.left_size) in
    let er : size s.r ≡ length c.split_at.result.1.now = omega (arith, c.split_at.ensures.back_len, s.left_size, e, ap size s.is) in
    let here = m.changed ∙ sym (λ k. M.join (f2 (s.left.has.top_is k)) (f2 (s.right.has.top_is k))) in
    let left = sums_stay M.join f1 f2 s.l (λ j k. c.write_leaves-2.ensures.others s.r right j (λ z. s.apart.2.apart j k z)) (c.write_leaves.ensures.sums s.l s.left el) in
    subst (AreSums M.join f3) (sym s.is) (sum_made M.join c.args.top s.l s.r s.apart f2 f3 here m.others left (c.write_leaves-2.ensures.sums s.r right er))

pub returns-clause-maps : goal.returns-clause-maps
returns-clause-maps g t c = λ x h e.
    let M = g.M.Summary in let n = length c.args.cells.now.maps in let ns = c.args.nodes.now in let ls = c.args.leaves.now in
    let s = sides n ns c.args.top x h (omega (arith, c.if-node-eq0.false)) in
    let right = has_slots _ _ ns (at ns c.args.top).right s.r c.write_leaves.ensures.slots s.right in
    let f0 = map_at M.unit c.args.cells.now in let f1 = map_at M.unit c.write_leaves.new.cells in let f2 = map_at M.unit c.write_leaves-2.new.cells in let f3 = map_at M.unit c.join.new.self in let m = c.join.ensures.map in
    let el : size s.l ≡ length c.split_at.result.0.now = omega (arith, c.split_at.ensures.front_len, s.left_size) in
    let er : size s.r ≡ length c.split_at.result.1.now = omega (arith, c.split_at.ensures.back_len, s.left_size, e, ap size s.is) in
    let front = c.split_at.result.0.now in let back = c.split_at.result.1.now in
    let K = λ (l : Leaf g.row.M-Letter.Denot). map_by (M.unit c.args.cells.now.shape) (M.leaf c.args.source.now) l.letter in
    let left = leaves_stay f2 f3 s.l (λ j k. m.others j (left_not_top M.join c.args.top s.l s.r s.apart j k)) ∙ leaves_stay f1 f2 s.l (λ j k. c.write_leaves-2.ensures.others s.r right j (λ z. s.apart.2.apart j k z)) ∙ c.write_leaves.ensures.maps s.l s.left el in
    let new = leaves_stay f2 f3 s.r (λ j k. m.others j (right_not_top M.join c.args.top s.l s.r s.apart j k)) ∙ c.write_leaves-2.ensures.maps s.r right er
    ∙ ap (λ q. map (λ (l : Leaf g.row.M-Letter.Denot). map_by (M.unit q) (M.leaf c.args.source.now) l.letter) back) c.write_leaves.ensures.slots.shape in
    ap (λ z. map (λ (y : Item). f3 y.number) (leaves z)) s.is ∙ map-append (λ (y : Item). f3 y.number) (leaves s.l) (leaves s.r)
    ∙ (λ k. left k ++ new k) ∙ (λ k. map K (c.split_at.ensures.front k) ++ map K (c.split_at.ensures.back k))
    ∙ sym (map-append K (take (at ns (at ns c.args.top).left).counts.leaves ls) (drop (at ns (at ns c.args.top).left).counts.leaves ls)) ∙ ap (map K) (take-append-drop (at ns (at ns c.args.top).left).counts.leaves ls)

pub returns-clause-others : goal.returns-clause-others
returns-clause-others g t c = λ x h j a.
    let M = g.M.Summary in let n = length c.args.cells.now.maps in let ns = c.args.nodes.now in let ls = c.args.leaves.now in
    let s = sides n ns c.args.top x h (omega (arith, c.if-node-eq0.false)) in
    let right = has_slots _ _ ns (at ns c.args.top).right s.r c.write_leaves.ensures.slots s.right in
    let f0 = map_at M.unit c.args.cells.now in let f1 = map_at M.unit c.write_leaves.new.cells in let f2 = map_at M.unit c.write_leaves-2.new.cells in let f3 = map_at M.unit c.join.new.self in let m = c.join.ensures.map in
    let out = subst (λ z. ¬ Has z j) s.is a in
    m.others j (λ q. out (inl q)) ∙ c.write_leaves-2.ensures.others s.r right j (λ q. out (inr (inr q))) ∙ c.write_leaves.ensures.others s.l s.left j (λ q. out (inr (inl q)))

pub returns-clause-slots : goal.returns-clause-slots
returns-clause-slots g t c = same_slots _ _ _ (same_slots _ _ _ c.write_leaves.ensures.slots c.write_leaves-2.ensures.slots) (set_slots g.M.Summary.unit _ _ _ _ c.join.ensures.map)

pub returns-clause-steps : goal.returns-clause-steps
returns-clause-steps g t c = omega (arith, c.write_leaves.ensures.steps, c.write_leaves-2.ensures.steps, c.join.ensures.steps, c.split_at.ensures.front_len, c.split_at.ensures.back_len)
