use Rattle.std.proofs.Common.{sym, ap, ◌∙◌}
use Rattle.std.specs.Prelude.{slice_get}
use Rattle.doc_nodes.specs.Nodes.{node, is_element_at}
use Rattle.doc_nodes.specs.Linked.{entries, nodes_of}
use Rattle.doc_nodes.proofs.Elements.{marked_are, no_element_at}
use Rattle.doc_nodes.proofs.Found.{no_node}
use Rattle.doc_nodes.proofs.Placed.{live_list}
use Rattle.doc_nodes.proofs.Seen.{has_child, sound}
use Rattle.doc_nodes.proofs.links.NodeLinks.element_at.Goals as goal

pub returns-in-None-clause-element : goal.returns-in-None-clause-element
returns-in-None-clause-element c = rw (← c.self.view_is) (
    let ss = c.self.inside.slots.slots in let v = c.self.inside.lists in
    no_element_at (is_element_at (nodes_of ss v)) c.args.place (node (nodes_of ss v) c.args.number) (no_node ss v c.args.number (sym c.in-None.ensures)))

pub returns-in-None-clause-sound : goal.returns-in-None-clause-sound
returns-in-None-clause-sound c = rw (← c.self.view_is) (sound _ _ c.self.invariant)

pub nth_element-requires-clause-live : goal.nth_element-requires-clause-live
nth_element-requires-clause-live c =
    let ss = c.self.inside.slots.slots in let v = c.self.inside.lists in let s = c.in-Some.slot.now in
    (entries v s.list, live_list ss v c.args.number s c.self.invariant (sym c.in-Some.ensures))

pub nth_element-requires-clause-full : goal.nth_element-requires-clause-full
nth_element-requires-clause-full c = λ e k.
    has_child c.self.inside.slots.slots c.self.inside.lists c.args.number c.in-Some.slot.now c.self.invariant (sym c.in-Some.ensures) e k

pub returns-in-Some-clause-element : goal.returns-in-Some-clause-element
returns-in-Some-clause-element c = rw (← c.self.view_is) (
    c.nth_element.ensures
    ∙ ap (λ l. slice_get l c.args.place) (marked_are c.self.inside.slots.slots c.self.inside.lists c.args.number c.in-Some.slot.now c.self.invariant (sym c.in-Some.ensures)))

pub returns-in-Some-clause-sound : goal.returns-in-Some-clause-sound
returns-in-Some-clause-sound c = rw (← c.self.view_is) (sound _ _ c.self.invariant)
