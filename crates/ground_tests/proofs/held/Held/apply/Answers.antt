use Rattle.ground_tests.proofs.Holding.{held_live}
use Rattle.ground_tests.proofs.held.Held.apply.Goals as goal

pub apply-requires-clause-row : goal.apply-requires-clause-row
apply-requires-clause-row g c = held_live c.self.inside.rows c.self.inside.width c.self.inside.cap c.deref.result.now c.self.inside.slots.items c.args.slot c.in-Some.row c.self.invariant c.deref.ensures.value (c.in_slot.ensures c.in-Some.row c.in-Some.is)
