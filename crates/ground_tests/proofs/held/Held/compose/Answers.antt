use Rattle.ground_tests.proofs.Holding.{held_live, AreHeld_written}
use Rattle.ground_tests.proofs.held.Held.compose.Goals as goal

pub compose_into-requires-clause-first : goal.compose_into-requires-clause-first
compose_into-requires-clause-first g c = held_live c.self.inside.rows c.self.inside.width c.self.inside.cap c.deref.result.now c.self.inside.slots.items c.args.first c.in-Some.left c.self.invariant c.deref.ensures.value (c.in_slot.ensures c.in-Some.left c.in-Some.is)

pub compose_into-requires-clause-second : goal.compose_into-requires-clause-second
compose_into-requires-clause-second g c = held_live c.self.inside.rows c.self.inside.width c.self.inside.cap c.deref-2.result.now c.self.inside.slots.items c.args.second c.in-Some-in_slot.right c.self.invariant c.deref-2.ensures.value (c.in_slot-2.ensures c.in-Some-in_slot.right c.in-Some-in_slot.is)

pub compose_into-requires-clause-out : goal.compose_into-requires-clause-out
compose_into-requires-clause-out g c = held_live c.self.inside.rows c.self.inside.width c.self.inside.cap c.deref-3.result.now c.self.inside.slots.items c.args.out c.in-Some-in_slot-2.into c.self.invariant c.deref-3.ensures.value (c.in_slot-3.ensures c.in-Some-in_slot-2.into c.in-Some-in_slot-2.is)

pub invariant_of-self : goal.invariant_of-self
invariant_of-self g c =
    let left = held_live c.self.inside.rows c.self.inside.width c.self.inside.cap c.deref.result.now c.self.inside.slots.items c.args.first c.in-Some.left c.self.invariant c.deref.ensures.value (c.in_slot.ensures c.in-Some.left c.in-Some.is) in
    let right = held_live c.self.inside.rows c.self.inside.width c.self.inside.cap c.deref-2.result.now c.self.inside.slots.items c.args.second c.in-Some-in_slot.right c.self.invariant c.deref-2.ensures.value (c.in_slot-2.ensures c.in-Some-in_slot.right c.in-Some-in_slot.is) in
    AreHeld_written c.self.inside.rows c.compose_into.new.self c.self.inside.width c.self.inside.cap c.self.inside.slots.items c.in-Some-in_slot-2.into _ c.self.invariant (c.compose_into.ensures.row left.0 right.0 left.1 right.1)
