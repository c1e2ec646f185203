use Rattle.std.proofs.Common.{◌<◌, subst, refl}
use Rattle.std.proofs.lemmas.List.{length-map}
use Rattle.doc_nodes.specs.Slots.{slot_by}
use Rattle.doc_nodes.proofs.Keyed.{kept_put, writes_put}
use Rattle.doc_nodes.proofs.slots.Slots.put.Goals as goal

pub invariant_of-self : goal.invariant_of-self
invariant_of-self c =
    let s = c.self.inside in
    let within = rw (← c.self.view_is) at c.requires.within in
    let lt = subst (λ n. c.args.slot.number < n) (length-map s.keys.items (slot_by s.slab)) within in
    kept_put s.keys.items s.slab c.insert_reserved-key.new.self c.args.slot.number c.insert_reserved-key.result c.self.invariant c.args.slot lt refl c.insert_reserved-key.ensures.was_vacant c.insert_reserved-key.ensures.updates

pub returns-clause-change : goal.returns-clause-change
returns-clause-change c =
    let s = c.self.inside in
    let within = rw (← c.self.view_is) at c.requires.within in
    let lt = subst (λ n. c.args.slot.number < n) (length-map s.keys.items (slot_by s.slab)) within in
    rw (← c.self.view_is) (writes_put s.keys.items s.slab c.insert_reserved-key.new.self c.args.slot.number c.insert_reserved-key.result c.self.invariant c.args.slot lt c.insert_reserved-key.ensures.was_vacant c.insert_reserved-key.ensures.updates)
