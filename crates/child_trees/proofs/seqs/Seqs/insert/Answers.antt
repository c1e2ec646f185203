use Rattle.std.proofs.Common.{◌≡◌, ◌+◌, ◌≤◌, [], length, Some, None, sym, ap, ◌∙◌, subst, arith}
use Rattle.std.proofs.lemmas.Result.{err_from_is_err_and}
use Rattle.std.proofs.Common.{◌∷◌, insert}
use Rattle.std.specs.Option.{ForSome}
use Rattle.leaf_trees.specs.Tree.{size}
use Rattle.std.proofs.lemmas.List.Edits.{length-insert}
use Rattle.leaf_trees.specs.Arena.{at}
use Rattle.leaf_trees.proofs.Held.{positive}
use Rattle.child_trees.proofs.Along.{length-entries}
use Rattle.child_trees.proofs.Counting.{still_free}
use Rattle.child_trees.specs.Bits.{bits}
use Rattle.child_trees.specs.Cells.{map_at}
use Rattle.child_trees.specs.Lists.{get, entry, HasItem, Updates}
use Rattle.child_trees.specs.Sums.{entries}
use Rattle.child_trees.proofs.Digits.{bits_bound}
use Rattle.child_trees.proofs.Reading.{no_top, insert_none}
use Rattle.child_trees.proofs.Split.{top_within, top_size}
use Rattle.child_trees.proofs.Viewing.{seen, sound_all, live_top, rooted, kept_sums, kept_all, same_seen, but_one, kept_tree, updates_tree, free_absent}
use Rattle.child_trees.proofs.seqs.Seqs.insert.Goals as goal

pub reserve-requires : goal.reserve-requires
reserve-requires g c = c.self.invariant.lists.cells

pub invariant_of-self : goal.invariant_of-self
invariant_of-self g c =
    let M = g.M.Summary in let s = c.self.inside in let v = s.cells in let ns = s.trees.nodes in
    sound_all M.unit M.join v c.reserve.new.cells ns c.reserve.new.trees.nodes s.trees.spare c.reserve.new.trees.spare s.tops c.self.invariant c.reserve.ensures.lists c.reserve.ensures.cells c.reserve.ensures.in_use

pub returns-in_err-reserve-clause-err : goal.returns-in_err-reserve-clause-err
returns-in_err-reserve-clause-err g c =
    let M = g.M.Summary in let s = c.self.inside in let v = s.cells in let ns = s.trees.nodes in
    let p = err_from_is_err_and c.from_residual.result c.from_residual.ensures.1 in
    rw (p.1, ← c.self.view_is) (same_seen M.unit M.join v c.reserve.new.cells ns c.reserve.new.trees.nodes s.tops c.self.invariant.lists c.reserve.ensures.lists)

pub top-requires : goal.top-requires
top-requires g c =
    let M = g.M.Summary in let s = c.self.inside in let v = s.cells in let ns = s.trees.nodes in let n = c.seq.inside.number in
    let r = rw (← c.self.view_is, ← c.seq.view_is) at c.requires.live in
    let z = live_top M.unit M.join v ns s.tops n r.0 r.1 in
    (z.0, z.1)

pub plant-number-requires-clause-room : goal.plant-number-requires-clause-room
plant-number-requires-clause-room g c = omega (arith, c.in_ok-reserve.ensures.ok)

pub plant-number-requires-clause-cells : goal.plant-number-requires-clause-cells
plant-number-requires-clause-cells g c = c.reserve.ensures.cells

pub plant-number-requires-clause-fits : goal.plant-number-requires-clause-fits
plant-number-requires-clause-fits g c =
    let M = g.M.Summary in
    let fits = rw (← c.self.view_is) at c.requires.fits in
    subst (λ h. ForSome c.args.leaf.letter (M.fits h c.args.source.now)) (sym c.reserve.ensures.lists.shape) fits

pub set-requires : goal.set-requires
set-requires g c = (None, c.top.ensures ∙ ap Some c.in-None.is)

pub invariant_of-self-in-None : goal.invariant_of-self-in-None
invariant_of-self-in-None g c =
    let M = g.M.Summary in let s = c.self.inside in let v = s.cells in let ns = s.trees.nodes in let n = c.seq.inside.number in
    let w = c.reserve.new.cells in let ms = c.reserve.new.trees.nodes in let sp = c.reserve.new.trees.spare in
    let a = sound_all M.unit M.join v c.reserve.new.cells ns c.reserve.new.trees.nodes s.trees.spare c.reserve.new.trees.spare s.tops c.self.invariant c.reserve.ensures.lists c.reserve.ensures.cells c.reserve.ensures.in_use in
    let eq = same_seen M.unit M.join v w ns ms s.tops c.self.invariant.lists c.reserve.ensures.lists in
    let r0 = rw (← c.self.view_is, ← c.seq.view_is) at c.requires.live in
    let r1 = ap (λ z. get z n) eq ∙ r0.1 in
    let empty = no_top M.unit M.join v ns s.tops n r0.0 (c.top.ensures ∙ ap Some c.in-None.is) r0.1 in
    let x = c.plant-number.new.cells in let ls = c.plant-number.new.trees.nodes in let e = c.plant-number.ensures in
    let lists = but_one M.unit M.join w x ms ls n e.lists in
    let new = entry (M.unit w.shape) (M.leaf c.args.source.now) c.plant-number.result c.args.leaf in
    let u = updates_tree M.unit M.join w x ms ls s.tops c.set.new.self n c.plant-number.result (new ∷ []) a.lists lists c.set.ensures e.list in
    record {
      lists = kept_tree M.unit M.join w x ms ls s.tops c.set.new.self n c.plant-number.result (new ∷ []) a.lists lists c.set.ensures e.list e.cells;
      slots = still_free (seen M.unit w ms s.tops) (seen M.unit x ls c.set.new.self) n (length ms) (length ls) sp c.plant-number.new.trees.spare (Some r0.0) (Some (new ∷ [])) u r1 a.slots (omega (arith, e.slots.0, e.slots.1, ap length empty));
    }

pub bounds-nodes-top : goal.bounds-nodes-top
bounds-nodes-top g c =
    let M = g.M.Summary in let s = c.self.inside in let v = s.cells in let ns = s.trees.nodes in let n = c.seq.inside.number in
    let w = c.reserve.new.cells in let ms = c.reserve.new.trees.nodes in let lists = c.reserve.ensures.lists in
    let a = kept_all M.unit M.join v w ns ms s.tops c.self.invariant.lists lists c.reserve.ensures.cells in
    let eq = same_seen M.unit M.join v w ns ms s.tops c.self.invariant.lists lists in
    let r0 = rw (← c.self.view_is, ← c.seq.view_is) at c.requires.live in
    let r1 = ap (λ z. get z n) eq ∙ r0.1 in
    let top_is = c.top.ensures ∙ ap Some c.in-Some.is in let top = c.in-Some.top in
    let R = rooted M.unit M.join w ms s.tops a n top r0.0 top_is r1 in
    let h = (kept_sums M.unit M.join w ms n top R.tree R.kept).cells in
    rw c.nodes.ensures (top_within (length w.maps) ms top R.tree h)

pub invariant_of-self-then-nodes-top : goal.invariant_of-self-then-nodes-top
invariant_of-self-then-nodes-top g c =
    let M = g.M.Summary in let s = c.self.inside in let v = s.cells in let ns = s.trees.nodes in
    sound_all M.unit M.join v c.reserve.new.cells ns c.reserve.new.trees.nodes s.trees.spare c.reserve.new.trees.spare s.tops c.self.invariant c.reserve.ensures.lists c.reserve.ensures.cells c.reserve.ensures.in_use

pub returns-then-nodes-top-clause-err : goal.returns-then-nodes-top-clause-err
returns-then-nodes-top-clause-err g c = rw (← c.self.view_is) (
    let M = g.M.Summary in let s = c.self.inside in let v = s.cells in let ns = s.trees.nodes in let n = c.seq.inside.number in
    same_seen M.unit M.join v c.reserve.new.cells ns c.reserve.new.trees.nodes s.tops c.self.invariant.lists c.reserve.ensures.lists)

pub insert_leaf-inserted-requires-clause-tree : goal.insert_leaf-inserted-requires-clause-tree
insert_leaf-inserted-requires-clause-tree g c =
    let M = g.M.Summary in let s = c.self.inside in let v = s.cells in let ns = s.trees.nodes in let n = c.seq.inside.number in
    let w = c.reserve.new.cells in let ms = c.reserve.new.trees.nodes in let lists = c.reserve.ensures.lists in
    let a = kept_all M.unit M.join v w ns ms s.tops c.self.invariant.lists lists c.reserve.ensures.cells in
    let eq = same_seen M.unit M.join v w ns ms s.tops c.self.invariant.lists lists in
    let r0 = rw (← c.self.view_is, ← c.seq.view_is) at c.requires.live in
    let r1 = ap (λ z. get z n) eq ∙ r0.1 in
    let top_is = c.top.ensures ∙ ap Some c.in-Some.is in let top = c.in-Some.top in
    let R = rooted M.unit M.join w ms s.tops a n top r0.0 top_is r1 in
    let h = (kept_sums M.unit M.join w ms n top R.tree R.kept).cells in
    let le = rw (← c.self.view_is, ← c.seq.view_is) at c.requires.place in
    let few : c.args.place ≤ size R.tree = omega (arith, le r0.0 r0.1, R.size_is) in
    let same = ap (λ ks. (at ks top).counts.leaves) c.nodes.ensures in
    let size_is = top_size (length w.maps) ms top R.tree h in
    (n, R.tree, R.kept, few, omega (arith, c.if-nodes-top.false, same, size_is, R.kept.tree.has.few))

pub insert_leaf-inserted-requires-clause-room : goal.insert_leaf-inserted-requires-clause-room
insert_leaf-inserted-requires-clause-room g c = c.in_ok-reserve.ensures.ok

pub insert_leaf-inserted-requires-clause-cells : goal.insert_leaf-inserted-requires-clause-cells
insert_leaf-inserted-requires-clause-cells g c = c.reserve.ensures.cells

pub insert_leaf-inserted-requires-clause-fits : goal.insert_leaf-inserted-requires-clause-fits
insert_leaf-inserted-requires-clause-fits g c =
    let M = g.M.Summary in
    let fits = rw (← c.self.view_is) at c.requires.fits in
    subst (λ h. ForSome c.args.leaf.letter (M.fits h c.args.source.now)) (sym c.reserve.ensures.lists.shape) fits

pub set-requires-in-Some : goal.set-requires-in-Some
set-requires-in-Some g c = (Some c.in-Some.top, c.top.ensures ∙ ap Some c.in-Some.is)

pub invariant_of-self-in-Some : goal.invariant_of-self-in-Some
invariant_of-self-in-Some g c =
    let M = g.M.Summary in let s = c.self.inside in let v = s.cells in let ns = s.trees.nodes in let n = c.seq.inside.number in
    let w = c.reserve.new.cells in let ms = c.reserve.new.trees.nodes in let sp = c.reserve.new.trees.spare in
    let a = sound_all M.unit M.join v c.reserve.new.cells ns c.reserve.new.trees.nodes s.trees.spare c.reserve.new.trees.spare s.tops c.self.invariant c.reserve.ensures.lists c.reserve.ensures.cells c.reserve.ensures.in_use in
    let eq = same_seen M.unit M.join v w ns ms s.tops c.self.invariant.lists c.reserve.ensures.lists in
    let r0 = rw (← c.self.view_is, ← c.seq.view_is) at c.requires.live in
    let r1 = ap (λ z. get z n) eq ∙ r0.1 in
    let R = rooted M.unit M.join w ms s.tops a.lists n c.in-Some.top r0.0 (c.top.ensures ∙ ap Some c.in-Some.is) r1 in
    let le = rw (← c.self.view_is, ← c.seq.view_is) at c.requires.place in
    let few : c.args.place ≤ size R.tree = omega (arith, le r0.0 r0.1, R.size_is) in
    let x = c.insert_leaf-inserted.new.cells in let ls = c.insert_leaf-inserted.new.trees.nodes in let e = c.insert_leaf-inserted.ensures in
    let new = entry (M.unit w.shape) (M.leaf c.args.source.now) c.insert_leaf-inserted.result.item c.args.leaf in
    let was = entries (map_at M.unit w) R.tree in
    let many = length-entries (map_at M.unit w) R.tree in
    let more = length-insert was c.args.place new (omega (arith, few, many)) in
    let top = c.insert_leaf-inserted.result.top in let ys = insert was c.args.place new in
    let list = e.list n R.tree R.kept few in let lists = e.lists n R.tree R.kept few in
    let u = updates_tree M.unit M.join w x ms ls s.tops c.set-in-Some.new.self n top ys a.lists lists c.set-in-Some.ensures list in
    record {
      lists = kept_tree M.unit M.join w x ms ls s.tops c.set-in-Some.new.self n top ys a.lists lists c.set-in-Some.ensures list e.cells;
      slots = still_free (seen M.unit w ms s.tops) (seen M.unit x ls c.set-in-Some.new.self) n (length ms) (length ls) sp c.insert_leaf-inserted.new.trees.spare (Some r0.0) (Some ys) u r1 a.slots (omega (arith, e.slots.0, e.slots.1, many, more, R.size_is, positive R.tree));
    }

pub returns-in-None-clause-fresh : goal.returns-in-None-clause-fresh
returns-in-None-clause-fresh g c = rw (← c.self.view_is) (
    let M = g.M.Summary in let s = c.self.inside in let v = s.cells in let ns = s.trees.nodes in let n = c.seq.inside.number in
    let w = c.reserve.new.cells in let ms = c.reserve.new.trees.nodes in let lists = c.reserve.ensures.lists in
    let a = kept_all M.unit M.join v w ns ms s.tops c.self.invariant.lists lists c.reserve.ensures.cells in
    let eq = same_seen M.unit M.join v w ns ms s.tops c.self.invariant.lists lists in
    subst (λ z. ¬ HasItem z c.plant-number.result) eq (free_absent M.unit M.join w ms s.tops a c.plant-number.result c.plant-number.ensures.fresh))

pub returns-in-None-clause-ok : goal.returns-in-None-clause-ok
returns-in-None-clause-ok g c = rw (← c.self.view_is, ← c.seq.view_is) (λ xs e.
    let M = g.M.Summary in let s = c.self.inside in let v = s.cells in let ns = s.trees.nodes in let n = c.seq.inside.number in
    let w = c.reserve.new.cells in let ms = c.reserve.new.trees.nodes in let lists = c.reserve.ensures.lists in
    let a = kept_all M.unit M.join v w ns ms s.tops c.self.invariant.lists lists c.reserve.ensures.cells in
    let eq = same_seen M.unit M.join v w ns ms s.tops c.self.invariant.lists lists in
    let p = c.plant-number.ensures in
    let empty = no_top M.unit M.join v ns s.tops n xs (c.top.ensures ∙ ap Some c.in-None.is) e in
    let le = rw (← c.self.view_is, ← c.seq.view_is) at c.requires.place in
    let new = entry (M.unit w.shape) (M.leaf c.args.source.now) c.plant-number.result c.args.leaf in
    let same : new ∷ [] ≡ insert xs c.args.place (entry (M.unit v.shape) (M.leaf c.args.source.now) c.plant-number.result c.args.leaf) =
    insert_none xs c.args.place new empty (omega (arith, le xs e, ap length empty)) ∙ ap (λ h. insert xs c.args.place (entry (M.unit h) (M.leaf c.args.source.now) c.plant-number.result c.args.leaf)) c.reserve.ensures.lists.shape in
    let u = updates_tree M.unit M.join w c.plant-number.new.cells ms c.plant-number.new.trees.nodes s.tops c.set.new.self n c.plant-number.result _ a
    (but_one M.unit M.join w c.plant-number.new.cells ms c.plant-number.new.trees.nodes n p.lists) c.set.ensures p.list in
    subst (λ ys. Updates (seen M.unit v ns s.tops) (seen M.unit c.plant-number.new.cells c.plant-number.new.trees.nodes c.set.new.self) n (Some ys)) same
    (subst (λ z. Updates z (seen M.unit c.plant-number.new.cells c.plant-number.new.trees.nodes c.set.new.self) n (Some (new ∷ []))) eq u))

pub returns-else-nodes-top-clause-fresh : goal.returns-else-nodes-top-clause-fresh
returns-else-nodes-top-clause-fresh g c = rw (← c.self.view_is) (
    let M = g.M.Summary in let s = c.self.inside in let v = s.cells in let ns = s.trees.nodes in let n = c.seq.inside.number in
    let w = c.reserve.new.cells in let ms = c.reserve.new.trees.nodes in let lists = c.reserve.ensures.lists in
    let a = kept_all M.unit M.join v w ns ms s.tops c.self.invariant.lists lists c.reserve.ensures.cells in
    let eq = same_seen M.unit M.join v w ns ms s.tops c.self.invariant.lists lists in
    subst (λ z. ¬ HasItem z c.insert_leaf-inserted.result.item) eq (free_absent M.unit M.join w ms s.tops a c.insert_leaf-inserted.result.item c.insert_leaf-inserted.ensures.fresh))

pub returns-else-nodes-top-clause-ok : goal.returns-else-nodes-top-clause-ok
returns-else-nodes-top-clause-ok g c = rw (← c.self.view_is, ← c.seq.view_is) (λ xs e.
    let M = g.M.Summary in let s = c.self.inside in let v = s.cells in let ns = s.trees.nodes in let n = c.seq.inside.number in
    let w = c.reserve.new.cells in let ms = c.reserve.new.trees.nodes in let lists = c.reserve.ensures.lists in
    let a = kept_all M.unit M.join v w ns ms s.tops c.self.invariant.lists lists c.reserve.ensures.cells in
    let eq = same_seen M.unit M.join v w ns ms s.tops c.self.invariant.lists lists in
    let top_is = c.top.ensures ∙ ap Some c.in-Some.is in let top = c.in-Some.top in
    let e1 = ap (λ z. get z n) eq ∙ e in
    let R = rooted M.unit M.join w ms s.tops a n top xs top_is e1 in
    let h = (kept_sums M.unit M.join w ms n top R.tree R.kept).cells in
    let le = rw (← c.self.view_is, ← c.seq.view_is) at c.requires.place in
    let few : c.args.place ≤ size R.tree = omega (arith, le xs e, R.size_is) in
    let i = c.insert_leaf-inserted.ensures in
    let new = entry (M.unit w.shape) (M.leaf c.args.source.now) c.insert_leaf-inserted.result.item c.args.leaf in
    let same = ap (λ ys. insert ys c.args.place new) R.entries_are ∙ ap (λ h. insert xs c.args.place (entry (M.unit h) (M.leaf c.args.source.now) c.insert_leaf-inserted.result.item c.args.leaf)) c.reserve.ensures.lists.shape in
    let u = updates_tree M.unit M.join w c.insert_leaf-inserted.new.cells ms c.insert_leaf-inserted.new.trees.nodes s.tops c.set-in-Some.new.self n c.insert_leaf-inserted.result.top _ a
    (i.lists n R.tree R.kept few) c.set-in-Some.ensures (i.list n R.tree R.kept few) in
    subst (λ ys. Updates (seen M.unit v ns s.tops) (seen M.unit c.insert_leaf-inserted.new.cells c.insert_leaf-inserted.new.trees.nodes c.set-in-Some.new.self) n (Some ys)) same
    (subst (λ z. Updates z (seen M.unit c.insert_leaf-inserted.new.cells c.insert_leaf-inserted.new.trees.nodes c.set-in-Some.new.self) n (Some (insert (entries (map_at M.unit w) R.tree) c.args.place new))) eq u))

pub returns-else-nodes-top-clause-steps : goal.returns-else-nodes-top-clause-steps
returns-else-nodes-top-clause-steps g c = rw (← c.self.view_is, ← c.seq.view_is) (λ xs e.
    let M = g.M.Summary in let s = c.self.inside in let v = s.cells in let ns = s.trees.nodes in let n = c.seq.inside.number in
    let w = c.reserve.new.cells in let ms = c.reserve.new.trees.nodes in let lists = c.reserve.ensures.lists in
    let a = kept_all M.unit M.join v w ns ms s.tops c.self.invariant.lists lists c.reserve.ensures.cells in
    let eq = same_seen M.unit M.join v w ns ms s.tops c.self.invariant.lists lists in
    let top_is = c.top.ensures ∙ ap Some c.in-Some.is in let top = c.in-Some.top in
    let e1 = ap (λ z. get z n) eq ∙ e in
    let R = rooted M.unit M.join w ms s.tops a n top xs top_is e1 in
    let h = (kept_sums M.unit M.join w ms n top R.tree R.kept).cells in
    let le = rw (← c.self.view_is, ← c.seq.view_is) at c.requires.place in
    let few : c.args.place ≤ size R.tree = omega (arith, le xs e, R.size_is) in
    let b = bits_bound (length xs + 2) in
    let steps = c.insert_leaf-inserted.ensures.steps n R.tree R.kept few (bits (length xs + 2)) (omega (arith, b, R.size_is)) in
    omega (arith, steps))

pub returns-in-None-clause-steps : goal.returns-in-None-clause-steps
returns-in-None-clause-steps g c = λ xs e. omega (arith, c.plant-number.ensures.steps)
