use Rattle.ground_tests.proofs.ListHolding.{AreHeld_given}
use Rattle.ground_tests.proofs.list_held.Held.close.Goals as goal

pub invariant_of-self : goal.invariant_of-self
invariant_of-self c = AreHeld_given c.self.inside.seqs c.drop_seq.new.self c.deref.result.now c.self.inside.slots.items c.args.slot c.in-Some.seq c.self.invariant c.deref.ensures.value (c.in_slot.ensures c.in-Some.seq c.in-Some.is) c.drop_seq.ensures
