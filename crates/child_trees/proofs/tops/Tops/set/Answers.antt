use Rattle.child_trees.specs.declared.tops.Slot.TheVariants.{Taken}
use Rattle.child_trees.proofs.Chains.{taken_slot, linked_set, writes_set}
use Rattle.child_trees.proofs.tops.Tops.set.Goals as goal

pub invariant_of-self : goal.invariant_of-self
invariant_of-self c =
    let s = c.self.inside in
    let t = rw (← c.self.view_is) at c.requires.1 in
    let k = taken_slot s.slots.items c.args.number c.requires.0 t in
    linked_set s.slots.items s.free c.self.invariant c.args.number c.requires.0 c.args.top k.1

pub returns : goal.returns
returns c =
    let s = c.self.inside in
    let t = rw (← c.self.view_is) at c.requires.1 in
    let k = taken_slot s.slots.items c.args.number c.requires.0 t in
    rw (← c.self.view_is) (writes_set s.slots.items c.args.number (Taken c.args.top) k.0)
