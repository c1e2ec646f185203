use Rattle.std.proofs.Common.{◌+◌, ◌<◌, ◌^◌, sym, ap, ◌∙◌, subst}
use Rattle.std.specs.Option.{option_map}
use Rattle.std.proofs.lemmas.List.{length-map}
use Rattle.doc_nodes.specs.Nodes.{Node}
use Rattle.doc_nodes.specs.Slots.{slot}
use Rattle.doc_nodes.specs.Linked.{node_in}
use Rattle.doc_nodes.proofs.Changing.{no_slot}
use Rattle.doc_nodes.proofs.Settling.{no_entries}
use Rattle.doc_nodes.proofs.Seen.{node_is, seen, sound}
use Rattle.doc_nodes.proofs.links.NodeLinks.put_children.Goals as goal

pub put_family-requires-clause-linked : goal.put_family-requires-clause-linked
put_family-requires-clause-linked c = c.self.invariant

pub put_family-requires-clause-free : goal.put_family-requires-clause-free
put_family-requires-clause-free c = λ d k.
    let ss = c.self.inside.slots.slots in let v = c.self.inside.lists in
    let free = rw (← c.self.view_is) at c.requires.free in
    let o = free d k in
    (no_slot v (slot ss d.number) (sym (node_is ss v d.number) ∙ o.0), subst (λ n. d.number < n) (length-map ss (option_map (node_in v))) o.1)

pub put_family-requires-clause-parent : goal.put_family-requires-clause-parent
put_family-requires-clause-parent c =
    let ss = c.self.inside.slots.slots in let v = c.self.inside.lists in
    let q = rw (← c.self.view_is) at c.requires.parent in
    let z = seen ss v c.args.parent q.0 q.1 in
    (z.slot_is, z.there, no_entries v z.slot_is (ap (λ (y : Node). y.children) z.same ∙ q.2), subst (λ (y : Node). y.depth + 1 < 2 ^ 32) (sym z.same) q.3)

pub invariant_of-self : goal.invariant_of-self
invariant_of-self c = c.put_family.ensures.linked

pub returns-clause-ok : goal.returns-clause-ok
returns-clause-ok c = rw (← c.self.view_is) c.put_family.ensures.ok

pub returns-clause-err : goal.returns-clause-err
returns-clause-err c = rw (← c.self.view_is) c.put_family.ensures.err

pub returns-clause-sound : goal.returns-clause-sound
returns-clause-sound c = sound c.put_family.new.slots.slots c.put_family.new.lists c.put_family.ensures.linked
