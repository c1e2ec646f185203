use Rattle.std.proofs.Common.{◌≡◌, Some, map, refl, subst}
use Rattle.doc_nodes.specs.declared.slots.Slot.{Slot}
use Rattle.doc_nodes.specs.Slots.{Writes, slot_by}
use Rattle.slab.specs.Slab.{with_value}
use Rattle.doc_nodes.proofs.Keyed.{lent_is, lent_kept, lent_writes}
use Rattle.doc_nodes.proofs.slots.Slots.set_list.Goals as goal

pub invariant_of-self : goal.invariant_of-self
invariant_of-self c =
    let s = c.self.inside in
    let there = rw (← c.self.view_is) at c.requires.1 in
    let w = c.in-Some-get_mut.slot.now in
    lent_kept s.keys.items s.slab c.args.number c.index.result.now c.requires.0 w c.in-Some.key c.self.invariant there c.index.ensures c.in-Some.is c.in-Some-get_mut.ensures.value
    (record w { list = c.args.list; count = c.args.count }) refl c.requires.2

pub returns-in-Some-get_mut : goal.returns-in-Some-get_mut
returns-in-Some-get_mut c =
    let s = c.self.inside in
    let w = c.in-Some-get_mut.slot.now in
    λ y e.
    let there = rw (← c.self.view_is) at e in
    let same : w ≡ y = lent_is s.keys.items s.slab c.args.number c.index.result.now y w c.in-Some.key c.self.invariant there c.index.ensures c.in-Some.is c.in-Some-get_mut.ensures.value in
    let written = lent_writes s.keys.items s.slab c.args.number c.index.result.now y w c.in-Some.key c.self.invariant there c.index.ensures c.in-Some.is c.in-Some-get_mut.ensures.value
    (record w { list = c.args.list; count = c.args.count }) in
    rw (← c.self.view_is)
    (subst (λ (z : Slot). Writes (map (slot_by s.slab) s.keys.items) (map (slot_by (with_value s.slab c.in-Some.key (record w { list = c.args.list; count = c.args.count }))) s.keys.items) c.args.number (Some (record z { list = c.args.list; count = c.args.count })))
    same written)
