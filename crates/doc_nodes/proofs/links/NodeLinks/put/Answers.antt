use Rattle.std.proofs.Common.{◌+◌, ◌<◌, ◌≤◌, ◌^◌, List, length, Option, sym, ap, ◌∙◌, subst, arith}
use Rattle.std.proofs.lemmas.List.{length-map}
use Rattle.std.specs.Option.{option_map}
use Rattle.std.proofs.lemmas.Result.{err_from_is_err_and}
use Rattle.child_trees.specs.Lists.{IsLive}
use Rattle.doc_nodes.specs.declared.slots.Slot.{Slot}
use Rattle.doc_nodes.specs.declared.slots.Owner.{Owner}
use Rattle.doc_nodes.specs.Nodes.{Node}
use Rattle.doc_nodes.specs.Slots.{slot}
use Rattle.doc_nodes.specs.Linked.{entries, entry_of, node_in, nodes_of, IsLinked}
use Rattle.doc_nodes.proofs.Changing.{no_slot}
use Rattle.doc_nodes.proofs.Making.{new_slot, child_of, puts_by, parent_still, place_in}
use Rattle.doc_nodes.proofs.Placed.{live_list}
use Rattle.doc_nodes.proofs.Putting.{linked-put, inserts-put}
use Rattle.doc_nodes.proofs.Seen.{node_is, seen, sound, linked_lists, seen_same_lists}
use Rattle.doc_nodes.proofs.links.NodeLinks.put.Goals as goal

pub owner-above-requires : goal.owner-above-requires
owner-above-requires c =
    let ss = c.self.inside.slots.slots in let v = c.self.inside.lists in let n = c.args.number in let p = c.args.parent in let place = c.args.place in
    let q = rw (← c.self.view_is) at c.requires.parent in
    let z = seen ss v p q.0 q.1 in let s = z.slot_is in
    (s, z.there)

pub returns-then-above-clause-sound : goal.returns-then-above-clause-sound
returns-then-above-clause-sound c = rw (← c.self.view_is) (sound _ _ c.self.invariant)

pub invariant_of-self : goal.invariant_of-self
invariant_of-self c = subst (λ x. IsLinked x c.self.inside.lists) (sym c.reserve.ensures.slots) c.self.invariant

pub returns-in_err-reserve-clause-err : goal.returns-in_err-reserve-clause-err
returns-in_err-reserve-clause-err c =
    let r = err_from_is_err_and c.from_residual.result c.from_residual.ensures.1 in
    rw (r.1, ← c.self.view_is) (ap (λ x. nodes_of x c.self.inside.lists) c.reserve.ensures.slots)

pub returns-in_err-reserve-clause-sound : goal.returns-in_err-reserve-clause-sound
returns-in_err-reserve-clause-sound c =
    sound c.reserve.new.self.slots c.self.inside.lists (subst (λ x. IsLinked x c.self.inside.lists) (sym c.reserve.ensures.slots) c.self.invariant)

pub hang-requires-clause-live : goal.hang-requires-clause-live
hang-requires-clause-live c =
    let ss = c.self.inside.slots.slots in let v = c.self.inside.lists in let n = c.args.number in let p = c.args.parent in let place = c.args.place in
    let q = rw (← c.self.view_is) at c.requires.parent in
    let z = seen ss v p q.0 q.1 in let s = z.slot_is in
    subst (λ (y : Owner). IsLive v y.list) (sym (c.owner-above.ensures s z.there)) (entries v s.list, live_list ss v p s c.self.invariant z.there)

pub hang-requires-clause-place : goal.hang-requires-clause-place
hang-requires-clause-place c =
    let ss = c.self.inside.slots.slots in let v = c.self.inside.lists in let n = c.args.number in let p = c.args.parent in let place = c.args.place in
    let q = rw (← c.self.view_is) at c.requires.parent in
    let z = seen ss v p q.0 q.1 in let s = z.slot_is in
    subst (λ (y : Owner). place ≤ length (entries v y.list)) (sym (c.owner-above.ensures s z.there)) (place_in v s q.0 place z.same q.2)

pub invariant_of-self-in_err-hung : goal.invariant_of-self-in_err-hung
invariant_of-self-in_err-hung c =
    let ss = c.self.inside.slots.slots in let v = c.self.inside.lists in let w = c.hang.new.lists in
    subst (λ x. IsLinked x w) (sym c.reserve.ensures.slots)
    (linked_lists ss v w (λ n s h. c.in_err-hung.ensures.err s.list (entries v s.list, live_list ss v n s c.self.invariant h)) c.self.invariant)

pub returns-in_err-hung-clause-err : goal.returns-in_err-hung-clause-err
returns-in_err-hung-clause-err c =
    let ss = c.self.inside.slots.slots in let v = c.self.inside.lists in let w = c.hang.new.lists in
    let r = err_from_is_err_and c.from_residual-in_err-hung.result c.from_residual-in_err-hung.ensures.1 in
    rw (r.1, ← c.self.view_is) (
    ap (λ x. nodes_of x w) c.reserve.ensures.slots
    ∙ seen_same_lists ss v w (λ n s h. c.in_err-hung.ensures.err s.list (entries v s.list, live_list ss v n s c.self.invariant h)))

pub returns-in_err-hung-clause-sound : goal.returns-in_err-hung-clause-sound
returns-in_err-hung-clause-sound c =
    let ss = c.self.inside.slots.slots in let v = c.self.inside.lists in let w = c.hang.new.lists in
    sound c.reserve.new.self.slots w (subst (λ x. IsLinked x w) (sym c.reserve.ensures.slots)
    (linked_lists ss v w (λ n s h. c.in_err-hung.ensures.err s.list (entries v s.list, live_list ss v n s c.self.invariant h)) c.self.invariant))

pub overflow_add-above : goal.overflow_add-above
overflow_add-above c =
    let ss = c.self.inside.slots.slots in let v = c.self.inside.lists in let n = c.args.number in let p = c.args.parent in let place = c.args.place in
    let q = rw (← c.self.view_is) at c.requires.parent in
    let z = seen ss v p q.0 q.1 in let s = z.slot_is in
    let deep = subst (λ (y : Node). y.depth + 1 < 2 ^ 32) (sym z.same) q.3 in
    let depth = ap (λ (y : Owner). y.depth) (c.owner-above.ensures s z.there) in
    omega (arith, deep, depth)

pub put-requires-clause-within : goal.put-requires-clause-within
put-requires-clause-within c =
    let ss = c.self.inside.slots.slots in let v = c.self.inside.lists in
    let given = rw (← c.self.view_is) at c.requires.given in
    let size = length-map ss (option_map (node_in v)) in
    let same = ap (λ (x : List (Option Slot)). length x) c.reserve.ensures.slots in
    omega (arith, given, size, same)

pub put-requires-clause-free : goal.put-requires-clause-free
put-requires-clause-free c =
    let ss = c.self.inside.slots.slots in let v = c.self.inside.lists in let n = c.args.number in let p = c.args.parent in let place = c.args.place in
    let q = rw (← c.self.view_is) at c.requires.parent in
    let z = seen ss v p q.0 q.1 in let s = z.slot_is in
    let free = no_slot v (slot ss n) (sym (node_is ss v n) ∙ (rw (← c.self.view_is) at c.requires.free)) in
    ap (λ x. slot x n) c.reserve.ensures.slots ∙ free

pub set_count-requires : goal.set_count-requires
set_count-requires c =
    let ss = c.self.inside.slots.slots in let v = c.self.inside.lists in let n = c.args.number in let p = c.args.parent in let place = c.args.place in
    let q = rw (← c.self.view_is) at c.requires.parent in
    let z = seen ss v p q.0 q.1 in let s = z.slot_is in
    let free = no_slot v (slot ss n) (sym (node_is ss v n) ∙ (rw (← c.self.view_is) at c.requires.free)) in
    (s, parent_still ss c.reserve.new.self.slots c.put.new.self.slots p n s _ c.reserve.ensures.slots z.there free c.put.ensures.change, c.self.invariant.own p s z.there)

pub invariant_of-self-2 : goal.invariant_of-self-2
invariant_of-self-2 c =
    let ss = c.self.inside.slots.slots in let v = c.self.inside.lists in let n = c.args.number in let p = c.args.parent in let place = c.args.place in
    let q = rw (← c.self.view_is) at c.requires.parent in
    let z = seen ss v p q.0 q.1 in let s = z.slot_is in
    let free = no_slot v (slot ss n) (sym (node_is ss v n) ∙ (rw (← c.self.view_is) at c.requires.free)) in
    let all = puts_by ss c.reserve.new.self.slots c.put.new.self.slots c.set_count.new.self.slots v c.hang.new.lists p place n s c.owner-above.result c.is_element-is_element.result c.in_ok-hung.hung c.args.content c.self.invariant
    (c.owner-above.ensures s z.there) c.is_element-is_element.ensures c.reserve.ensures.slots z.there free (place_in v s q.0 place z.same q.2) c.in_ok-hung.ensures.ok c.put.ensures.change c.set_count.ensures in
    linked-put ss v c.set_count.new.self.slots c.hang.new.lists p s place n (new_slot n p s c.in_ok-hung.hung c.args.content) (entry_of (child_of n c.args.content) c.in_ok-hung.hung.item) c.self.invariant all

pub returns-clause-ok : goal.returns-clause-ok
returns-clause-ok c =
    let ss = c.self.inside.slots.slots in let v = c.self.inside.lists in let n = c.args.number in let p = c.args.parent in let place = c.args.place in
    let q = rw (← c.self.view_is) at c.requires.parent in
    let z = seen ss v p q.0 q.1 in let s = z.slot_is in
    let free = no_slot v (slot ss n) (sym (node_is ss v n) ∙ (rw (← c.self.view_is) at c.requires.free)) in
    let all = puts_by ss c.reserve.new.self.slots c.put.new.self.slots c.set_count.new.self.slots v c.hang.new.lists p place n s c.owner-above.result c.is_element-is_element.result c.in_ok-hung.hung c.args.content c.self.invariant
    (c.owner-above.ensures s z.there) c.is_element-is_element.ensures c.reserve.ensures.slots z.there free (place_in v s q.0 place z.same q.2) c.in_ok-hung.ensures.ok c.put.ensures.change c.set_count.ensures in
    rw (← c.self.view_is) (inserts-put ss v c.set_count.new.self.slots c.hang.new.lists p s place n (new_slot n p s c.in_ok-hung.hung c.args.content) (entry_of (child_of n c.args.content) c.in_ok-hung.hung.item) c.self.invariant all)

pub returns-clause-sound : goal.returns-clause-sound
returns-clause-sound c =
    let ss = c.self.inside.slots.slots in let v = c.self.inside.lists in let n = c.args.number in let p = c.args.parent in let place = c.args.place in
    let q = rw (← c.self.view_is) at c.requires.parent in
    let z = seen ss v p q.0 q.1 in let s = z.slot_is in
    let free = no_slot v (slot ss n) (sym (node_is ss v n) ∙ (rw (← c.self.view_is) at c.requires.free)) in
    let all = puts_by ss c.reserve.new.self.slots c.put.new.self.slots c.set_count.new.self.slots v c.hang.new.lists p place n s c.owner-above.result c.is_element-is_element.result c.in_ok-hung.hung c.args.content c.self.invariant
    (c.owner-above.ensures s z.there) c.is_element-is_element.ensures c.reserve.ensures.slots z.there free (place_in v s q.0 place z.same q.2) c.in_ok-hung.ensures.ok c.put.ensures.change c.set_count.ensures in
    sound c.set_count.new.self.slots c.hang.new.lists (linked-put ss v c.set_count.new.self.slots c.hang.new.lists p s place n (new_slot n p s c.in_ok-hung.hung c.args.content) (entry_of (child_of n c.args.content) c.in_ok-hung.hung.item) c.self.invariant all)
