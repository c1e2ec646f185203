use Rattle.ground_tests.proofs.Holding.{held_live, AreHeld_given}
use Rattle.ground_tests.proofs.held.Held.give.Goals as goal

pub give_row-requires : goal.give_row-requires
give_row-requires c = held_live c.self.inside.rows c.self.inside.width c.self.inside.cap c.deref.result.now c.self.inside.slots.items c.args.slot c.in-Some.row c.self.invariant c.deref.ensures.value (c.in_slot.ensures c.in-Some.row c.in-Some.is)

pub invariant_of-self : goal.invariant_of-self
invariant_of-self c = AreHeld_given c.self.inside.rows c.give_row.new.self c.self.inside.width c.self.inside.cap c.deref.result.now c.self.inside.slots.items c.args.slot c.in-Some.row c.self.invariant c.deref.ensures.value
    (c.in_slot.ensures c.in-Some.row c.in-Some.is) c.give_row.ensures.row
