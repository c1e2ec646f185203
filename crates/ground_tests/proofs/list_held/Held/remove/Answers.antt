use Rattle.ground_tests.proofs.ListHolding.{AreHeld_changed}
use Rattle.ground_tests.proofs.list_held.Held.remove.Goals as goal

pub invariant_of-self : goal.invariant_of-self
invariant_of-self g c =
    let s = c.self.inside in let i = c.in-Some.item in
    let w = rw (← c.self.view_is) at (c.at.ensures i c.in-Some.is) in
    AreHeld_changed s.seqs c.remove.new.self s.slots.items w.0 _ c.self.invariant (c.remove.ensures.change w.0 w.1 w.2 w.3)
