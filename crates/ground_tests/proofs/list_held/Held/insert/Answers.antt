use Rattle.ground_tests.proofs.ListHolding.{AreHeld_changed, held_live}
use Rattle.ground_tests.proofs.list_held.Held.insert.Goals as goal

pub invariant_of-self-then-reaches : goal.invariant_of-self-then-reaches
invariant_of-self-then-reaches g c =
    let s = c.self.inside in let q = c.in-Some.seq in
    let l = held_live s.seqs c.deref.result.now s.slots.items c.args.slot q c.self.invariant c.deref.ensures.value (c.in_slot.ensures q c.in-Some.is) in
    AreHeld_changed s.seqs c.insert.new.self s.slots.items q _ c.self.invariant (c.in_ok-item-in-Some.ensures.ok l.0 l.1)
