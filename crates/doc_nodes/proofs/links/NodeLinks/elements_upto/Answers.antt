use Rattle.std.proofs.Common.{sym, ap, ◌∙◌, arith, length}
use Rattle.std.proofs.lemmas.Option.{same_Some}
use Rattle.doc_nodes.specs.Nodes.{node, is_element_at}
use Rattle.doc_nodes.specs.Linked.{entries, nodes_of}
use Rattle.doc_nodes.proofs.Elements.{elements_are, no_elements}
use Rattle.doc_nodes.proofs.Found.{no_node}
use Rattle.doc_nodes.proofs.Placed.{live_list}
use Rattle.doc_nodes.proofs.Seen.{sound}
use Rattle.doc_nodes.proofs.links.NodeLinks.elements_upto.Goals as goal

pub returns-in-None-clause-count : goal.returns-in-None-clause-count
returns-in-None-clause-count c = rw (← c.self.view_is) (
    let ss = c.self.inside.slots.slots in let v = c.self.inside.lists in
    no_elements (is_element_at (nodes_of ss v)) c.args.place (node (nodes_of ss v) c.args.number) (no_node ss v c.args.number (sym c.in-None.ensures)))

pub returns-in-None-clause-sound : goal.returns-in-None-clause-sound
returns-in-None-clause-sound c = rw (← c.self.view_is) (sound _ _ c.self.invariant)

pub elements_upto-requires-clause-live : goal.elements_upto-requires-clause-live
elements_upto-requires-clause-live c =
    let ss = c.self.inside.slots.slots in let v = c.self.inside.lists in let s = c.in-Some.slot.now in
    (entries v s.list, live_list ss v c.args.number s c.self.invariant (sym c.in-Some.ensures))

pub elements_upto-requires-clause-place : goal.elements_upto-requires-clause-place
elements_upto-requires-clause-place c = λ xs h.
    let ss = c.self.inside.slots.slots in let v = c.self.inside.lists in let s = c.in-Some.slot.now in
    let o = c.self.invariant.owner c.args.number s (sym c.in-Some.ensures) in
    let same = ap length (same_Some o.list xs (sym o.is ∙ h)) in let count = o.count in
    omega (arith, same, count, c.min.ensures)

pub returns-in-Some-clause-count : goal.returns-in-Some-clause-count
returns-in-Some-clause-count c = rw (← c.self.view_is) (
    let ss = c.self.inside.slots.slots in let v = c.self.inside.lists in let s = c.in-Some.slot.now in
    c.elements_upto.ensures (entries v s.list) (live_list ss v c.args.number s c.self.invariant (sym c.in-Some.ensures))
    ∙ elements_are ss v c.args.number s c.self.invariant (sym c.in-Some.ensures) c.args.place c.min.result c.min.ensures)

pub returns-in-Some-clause-sound : goal.returns-in-Some-clause-sound
returns-in-Some-clause-sound c = rw (← c.self.view_is) (sound _ _ c.self.invariant)
