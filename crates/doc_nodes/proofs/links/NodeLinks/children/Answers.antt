use Rattle.std.proofs.Common.{◌≡◌, sym, ap, ◌∙◌, subst, IfOk}
use Rattle.doc_nodes.specs.Nodes.{children_by}
use Rattle.doc_nodes.specs.Linked.{entries}
use Rattle.doc_nodes.proofs.Found.{no_node}
use Rattle.doc_nodes.proofs.Placed.{live_list}
use Rattle.doc_nodes.proofs.Seen.{shown, has_child, sound}
use Rattle.doc_nodes.proofs.links.NodeLinks.children.Goals as goal

pub returns-in-None-clause-children : goal.returns-in-None-clause-children
returns-in-None-clause-children c = rw (← c.self.view_is) (
    c.new.ensures.items ∙ sym (ap children_by (no_node c.self.inside.slots.slots c.self.inside.lists c.args.number (sym c.in-None.ensures))))

pub returns-in-None-clause-sound : goal.returns-in-None-clause-sound
returns-in-None-clause-sound c = rw (← c.self.view_is) (sound _ _ c.self.invariant)

pub children_in-requires-clause-live : goal.children_in-requires-clause-live
children_in-requires-clause-live c =
    let ss = c.self.inside.slots.slots in let v = c.self.inside.lists in let s = c.in-Some.slot.now in
    (entries v s.list, live_list ss v c.args.number s c.self.invariant (sym c.in-Some.ensures))

pub children_in-requires-clause-full : goal.children_in-requires-clause-full
children_in-requires-clause-full c = λ e k.
    has_child c.self.inside.slots.slots c.self.inside.lists c.args.number c.in-Some.slot.now c.self.invariant (sym c.in-Some.ensures) e k

pub returns-in-Some-clause-children : goal.returns-in-Some-clause-children
returns-in-Some-clause-children c = rw (← c.self.view_is) (
    subst (λ xs. IfOk c.children_in.result (λ children. children.items ≡ xs))
    (sym (ap children_by (shown c.self.inside.slots.slots c.self.inside.lists c.args.number c.in-Some.slot.now (sym c.in-Some.ensures)))) c.children_in.ensures)

pub returns-in-Some-clause-sound : goal.returns-in-Some-clause-sound
returns-in-Some-clause-sound c = rw (← c.self.view_is) (sound _ _ c.self.invariant)
