use Rattle.ground_tests.proofs.Holding.{held_live, AreHeld_written}
use Rattle.ground_tests.proofs.held.Held.set.Goals as goal

pub set_cell-requires-clause-row : goal.set_cell-requires-clause-row
set_cell-requires-clause-row c = held_live c.self.inside.rows c.self.inside.width c.self.inside.cap c.deref.result.now c.self.inside.slots.items c.args.slot c.in-Some.row c.self.invariant c.deref.ensures.value (c.in_slot.ensures c.in-Some.row c.in-Some.is)

pub invariant_of-self : goal.invariant_of-self
invariant_of-self c =
    let l = held_live c.self.inside.rows c.self.inside.width c.self.inside.cap c.deref.result.now c.self.inside.slots.items c.args.slot c.in-Some.row c.self.invariant c.deref.ensures.value (c.in_slot.ensures c.in-Some.row c.in-Some.is) in
    AreHeld_written c.self.inside.rows c.set_cell.new.self c.self.inside.width c.self.inside.cap c.self.inside.slots.items c.in-Some.row _ c.self.invariant (c.set_cell.ensures.row l.0 l.1)
