use Rattle.std.proofs.Common.{ap, ◌∙◌}
use Rattle.doc_nodes.specs.Nodes.{Node}
use Rattle.doc_nodes.proofs.Seen.{seen, sound}
use Rattle.doc_nodes.proofs.Writing.{linked-write, holds-write, same_kind}
use Rattle.doc_nodes.proofs.links.NodeLinks.replace.Goals as goal

pub replace-requires : goal.replace-requires
replace-requires c =
    let q = rw (← c.self.view_is) at c.requires in
    let z = seen c.self.inside.slots.slots c.self.inside.lists c.args.number q.0 q.1 in
    (z.slot_is, z.there, c.self.invariant.own c.args.number z.slot_is z.there)

pub invariant_of-self : goal.invariant_of-self
invariant_of-self c =
    let ss = c.self.inside.slots.slots in let v = c.self.inside.lists in
    let q = rw (← c.self.view_is) at c.requires in
    let z = seen ss v c.args.number q.0 q.1 in
    linked-write ss c.replace.new.self.slots v c.args.number z.slot_is c.args.content c.self.invariant z.there (c.replace.ensures.change z.slot_is z.there) (same_kind v z.slot_is q.0 c.args.content z.same q.2)

pub returns-clause-content : goal.returns-clause-content
returns-clause-content c = rw (← c.self.view_is) (λ it h.
    let z = seen c.self.inside.slots.slots c.self.inside.lists c.args.number it h in
    c.replace.ensures.content z.slot_is z.there ∙ ap (λ (y : Node). y.content) z.same)

pub returns-clause-change : goal.returns-clause-change
returns-clause-change c =
    let ss = c.self.inside.slots.slots in let v = c.self.inside.lists in
    let q = rw (← c.self.view_is) at c.requires in
    let z = seen ss v c.args.number q.0 q.1 in
    rw (← c.self.view_is) (holds-write ss c.replace.new.self.slots v c.args.number z.slot_is c.args.content c.self.invariant z.there (c.replace.ensures.change z.slot_is z.there) (same_kind v z.slot_is q.0 c.args.content z.same q.2))

pub returns-clause-sound : goal.returns-clause-sound
returns-clause-sound c =
    let ss = c.self.inside.slots.slots in let v = c.self.inside.lists in
    let q = rw (← c.self.view_is) at c.requires in
    let z = seen ss v c.args.number q.0 q.1 in
    sound c.replace.new.self.slots v (linked-write ss c.replace.new.self.slots v c.args.number z.slot_is c.args.content c.self.invariant z.there (c.replace.ensures.change z.slot_is z.there) (same_kind v z.slot_is q.0 c.args.content z.same q.2))
