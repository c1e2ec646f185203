use Rattle.std.proofs.Common.{◌≤◌, sym, ap, ◌∙◌, arith}
use Rattle.std.proofs.lemmas.Option.{same_Some}
use Rattle.doc_nodes.specs.declared.slots.Slot.{Slot}
use Rattle.doc_nodes.specs.Nodes.{Node}
use Rattle.doc_nodes.specs.Linked.{entries}
use Rattle.doc_nodes.proofs.Cutting.{leaf_of, has_hook, hung_place, item_stays, taken_apart, counted_place, takes}
use Rattle.doc_nodes.proofs.Placed.{placed, live_list}
use Rattle.doc_nodes.proofs.Seen.{seen, sound}
use Rattle.doc_nodes.proofs.Taking.{linked-take, removes-take}
use Rattle.doc_nodes.proofs.links.NodeLinks.take.Goals as goal

pub take-hook-requires : goal.take-hook-requires
take-hook-requires c =
    let q = rw (← c.self.view_is) at c.requires in
    let z = seen c.self.inside.slots.slots c.self.inside.lists c.args.number q.0 q.1 in
    (z.slot_is, z.there)

pub drop_seq-requires : goal.drop_seq-requires
drop_seq-requires c =
    let ss = c.self.inside.slots.slots in let v = c.self.inside.lists in let old = c.take-hook.result in
    (entries v old.list, live_list ss v c.args.number old c.self.invariant c.take-hook.ensures.value)

pub unreachable-requires : goal.unreachable-requires
unreachable-requires c =
    let q = rw (← c.self.view_is) at c.requires in
    has_hook c.self.inside.slots.slots c.self.inside.lists c.args.number q.0 c.take-hook.result q.1 q.3 c.take-hook.ensures.value c.in-None.is

pub remove-requires : goal.remove-requires
remove-requires c =
    let ss = c.self.inside.slots.slots in let v = c.self.inside.lists in let n = c.args.number in let old = c.take-hook.result in let h = c.in-Some.hook in
    let q = rw (← c.self.view_is) at c.requires in
    let was = c.take-hook.ensures.value in
    let leaf = leaf_of ss v n q.0 old q.1 q.2 was in
    let u = hung_place ss v n old h c.self.invariant was c.in-Some.is in
    (u.1.parent.list, u.0, entries v u.1.parent.list, item_stays ss v c.drop_seq.new.self h.parent u.0 n old h c.self.invariant u.1 was c.in-Some.is leaf c.drop_seq.ensures)

pub drop_child-requires : goal.drop_child-requires
drop_child-requires c =
    let ss = c.self.inside.slots.slots in let v = c.self.inside.lists in let n = c.args.number in let old = c.take-hook.result in let h = c.in-Some.hook in
    let q = rw (← c.self.view_is) at c.requires in
    let was = c.take-hook.ensures.value in
    let leaf = leaf_of ss v n q.0 old q.1 q.2 was in
    let u = hung_place ss v n old h c.self.invariant was c.in-Some.is in
    let some = counted_place ss v h.parent u.0 n old c.self.invariant u.1 was in
    let one : 1 ≤ u.1.parent.count = omega (arith, some) in (
      u.1.parent,
      c.take-hook.ensures.change.others h.parent (taken_apart ss v h.parent u.0 n old c.self.invariant u.1 was leaf) ∙ u.1.parent_is,
      c.self.invariant.own h.parent u.1.parent u.1.parent_is,
      one,
    )

pub invariant_of-self : goal.invariant_of-self
invariant_of-self c =
    let ss = c.self.inside.slots.slots in let v = c.self.inside.lists in let n = c.args.number in let old = c.take-hook.result in let h = c.in-Some.hook in
    let q = rw (← c.self.view_is) at c.requires in
    let was = c.take-hook.ensures.value in
    let leaf = leaf_of ss v n q.0 old q.1 q.2 was in
    let u = hung_place ss v n old h c.self.invariant was c.in-Some.is in
    linked-take ss v c.drop_child.new.self.slots c.remove.new.self h.parent u.1.parent u.0 n old u.1.entry c.self.invariant
    (takes ss c.take-hook.new.self.slots c.drop_child.new.self.slots v c.drop_seq.new.self c.remove.new.self h.parent u.0 n old h c.self.invariant u.1 was c.in-Some.is leaf
    c.take-hook.ensures.change c.drop_seq.ensures c.remove.ensures.change c.drop_child.ensures)

pub returns-clause-content : goal.returns-clause-content
returns-clause-content c = rw (← c.self.view_is) (λ it k.
    let z = seen c.self.inside.slots.slots c.self.inside.lists c.args.number it k in
    ap (λ (y : Slot). y.content) (same_Some c.take-hook.result z.slot_is (sym c.take-hook.ensures.value ∙ z.there)) ∙ ap (λ (y : Node). y.content) z.same)

pub returns-clause-change : goal.returns-clause-change
returns-clause-change c =
    let ss = c.self.inside.slots.slots in let v = c.self.inside.lists in let n = c.args.number in let old = c.take-hook.result in let h = c.in-Some.hook in
    let q = rw (← c.self.view_is) at c.requires in
    let was = c.take-hook.ensures.value in
    let leaf = leaf_of ss v n q.0 old q.1 q.2 was in
    rw (← c.self.view_is) (λ p place k.
    let u = placed ss v p place n c.self.invariant k in
    removes-take ss v c.drop_child.new.self.slots c.remove.new.self p u.parent place n old u.entry c.self.invariant
    (takes ss c.take-hook.new.self.slots c.drop_child.new.self.slots v c.drop_seq.new.self c.remove.new.self p place n old h c.self.invariant u was c.in-Some.is leaf
    c.take-hook.ensures.change c.drop_seq.ensures c.remove.ensures.change c.drop_child.ensures))

pub returns-clause-sound : goal.returns-clause-sound
returns-clause-sound c =
    let ss = c.self.inside.slots.slots in let v = c.self.inside.lists in let n = c.args.number in let old = c.take-hook.result in let h = c.in-Some.hook in
    let q = rw (← c.self.view_is) at c.requires in
    let was = c.take-hook.ensures.value in
    let leaf = leaf_of ss v n q.0 old q.1 q.2 was in
    let u = hung_place ss v n old h c.self.invariant was c.in-Some.is in
    sound c.drop_child.new.self.slots c.remove.new.self
    (linked-take ss v c.drop_child.new.self.slots c.remove.new.self h.parent u.1.parent u.0 n old u.1.entry c.self.invariant
    (takes ss c.take-hook.new.self.slots c.drop_child.new.self.slots v c.drop_seq.new.self c.remove.new.self h.parent u.0 n old h c.self.invariant u.1 was c.in-Some.is leaf
    c.take-hook.ensures.change c.drop_seq.ensures c.remove.ensures.change c.drop_child.ensures))
