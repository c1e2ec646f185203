use Rattle.std.proofs.Common.{sym, ap, ◌∙◌}
use Rattle.doc_nodes.specs.Nodes.{node}
use Rattle.doc_nodes.specs.Linked.{entries, nodes_of}
use Rattle.doc_nodes.proofs.Found.{no_node, up_to, no_child_at, child_found, child_past}
use Rattle.doc_nodes.proofs.Placed.{live_list}
use Rattle.doc_nodes.proofs.Seen.{sound}
use Rattle.doc_nodes.proofs.links.NodeLinks.child_at.Goals as goal

pub first_from-requires-clause-live : goal.first_from-requires-clause-live
first_from-requires-clause-live c =
    let ss = c.self.inside.slots.slots in let v = c.self.inside.lists in let s = c.in-Some.slot.now in
    (entries v s.list, live_list ss v c.args.number s c.self.invariant (sym c.in-Some.ensures))

pub first_from-requires-clause-place : goal.first_from-requires-clause-place
first_from-requires-clause-place c =
    up_to c.self.inside.slots.slots c.self.inside.lists c.args.number c.in-Some.slot.now c.self.invariant (sym c.in-Some.ensures) c.args.place c.if-place-slot.true

pub returns-in-None-clause-child : goal.returns-in-None-clause-child
returns-in-None-clause-child c = rw (← c.self.view_is) (
    let ss = c.self.inside.slots.slots in let v = c.self.inside.lists in let ns = nodes_of ss v in
    let e = no_node ss v c.args.number (sym c.in-None.ensures) in
    (no_child_at c.args.place (node ns c.args.number) e))

pub returns-in-None-clause-sound : goal.returns-in-None-clause-sound
returns-in-None-clause-sound c = rw (← c.self.view_is) (sound _ _ c.self.invariant)

pub returns-then-place-slot-clause-child : goal.returns-then-place-slot-clause-child
returns-then-place-slot-clause-child c = rw (← c.self.view_is) (
    ap (λ f. f.child) c.first_from.ensures
    ∙ child_found c.self.inside.slots.slots c.self.inside.lists c.args.number c.in-Some.slot.now c.self.invariant (sym c.in-Some.ensures) c.args.place)

pub returns-then-place-slot-clause-sound : goal.returns-then-place-slot-clause-sound
returns-then-place-slot-clause-sound c = rw (← c.self.view_is) (sound _ _ c.self.invariant)

pub returns-else-place-slot-clause-child : goal.returns-else-place-slot-clause-child
returns-else-place-slot-clause-child c = rw (← c.self.view_is) (
    child_past c.self.inside.slots.slots c.self.inside.lists c.args.number c.in-Some.slot.now c.self.invariant (sym c.in-Some.ensures) c.args.place c.if-place-slot.false)

pub returns-else-place-slot-clause-sound : goal.returns-else-place-slot-clause-sound
returns-else-place-slot-clause-sound c = rw (← c.self.view_is) (sound _ _ c.self.invariant)
