use Rattle.std.proofs.Common.{Some, sym, ap, ◌∙◌}
use Rattle.std.specs.Option.{option_map, option_and_then}
use Rattle.std.proofs.lemmas.Option.{none-some}
use Rattle.doc_nodes.specs.declared.slots.Hook.{Hook}
use Rattle.doc_nodes.specs.Nodes.{Node}
use Rattle.doc_nodes.specs.Linked.{entries}
use Rattle.doc_nodes.proofs.Placed.{placed, placed_item, hooked_item, not_placed}
use Rattle.doc_nodes.proofs.Seen.{sound, shown}
use Rattle.doc_nodes.proofs.links.NodeLinks.place.Goals as goal

pub place_of-requires : goal.place_of-requires
place_of-requires c =
    hooked_item c.self.inside.slots.slots c.self.inside.lists c.args.number c.in-Some.slot.now c.in-Some-hook.hook c.self.invariant (sym c.in-Some.ensures) c.in-Some-hook.is

pub returns-in-None-clause-place : goal.returns-in-None-clause-place
returns-in-None-clause-place c = rw (← c.self.view_is) (λ p place k.
    let u = placed c.self.inside.slots.slots c.self.inside.lists p place c.args.number c.self.invariant k in
    absurd (none-some u.child (c.in-None.ensures ∙ u.child_is)))

pub returns-in-None-clause-sound : goal.returns-in-None-clause-sound
returns-in-None-clause-sound c = rw (← c.self.view_is) (sound _ _ c.self.invariant)

pub returns-in-None-hook-clause-place : goal.returns-in-None-hook-clause-place
returns-in-None-hook-clause-place c = rw (← c.self.view_is) (λ p place k.
    absurd (not_placed c.self.inside.slots.slots c.self.inside.lists p place c.args.number c.in-Some.slot.now c.self.invariant k (sym c.in-Some.ensures) c.in-None-hook.is))

pub returns-in-None-hook-clause-sound : goal.returns-in-None-hook-clause-sound
returns-in-None-hook-clause-sound c = rw (← c.self.view_is) (sound _ _ c.self.invariant)

pub returns-in-Some-hook-clause-place : goal.returns-in-Some-hook-clause-place
returns-in-Some-hook-clause-place c = rw (← c.self.view_is) (λ p place k.
    let ss = c.self.inside.slots.slots in let v = c.self.inside.lists in
    let u = placed ss v p place c.args.number c.self.invariant k in
    ap Some (c.place_of.ensures.place u.parent.list place (entries v u.parent.list)
    (placed_item ss v p place c.args.number c.in-Some.slot.now c.in-Some-hook.hook c.self.invariant k (sym c.in-Some.ensures) c.in-Some-hook.is)))

pub returns-in-Some-hook-clause-none : goal.returns-in-Some-hook-clause-none
returns-in-Some-hook-clause-none c = rw (← c.self.view_is) (λ e.
    let s = c.in-Some.slot.now in
    absurd (none-some c.in-Some-hook.hook.parent (sym e ∙ ap (option_and_then (λ (it : Node). it.parent)) (shown c.self.inside.slots.slots c.self.inside.lists c.args.number s (sym c.in-Some.ensures))
    ∙ ap (option_map (λ (h : Hook). h.parent)) c.in-Some-hook.is)))

pub returns-in-Some-hook-clause-sound : goal.returns-in-Some-hook-clause-sound
returns-in-Some-hook-clause-sound c = rw (← c.self.view_is) (sound _ _ c.self.invariant)
