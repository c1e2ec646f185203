use Rattle.ground_tests.proofs.Holding.{held_live}
use Rattle.ground_tests.proofs.held.Held.get.Goals as goal

pub cell-requires-clause-row : goal.cell-requires-clause-row
cell-requires-clause-row c = held_live c.self.inside.rows c.self.inside.width c.self.inside.cap c.deref.result.now c.self.inside.slots.items c.args.slot c.in-Some.row c.self.invariant c.deref.ensures.value (c.in_slot.ensures c.in-Some.row c.in-Some.is)
