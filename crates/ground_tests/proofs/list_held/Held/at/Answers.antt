use Rattle.std.proofs.Common.{sym, ◌∙◌}
use Rattle.ground_tests.proofs.ListHolding.{item_found, held_live}
use Rattle.ground_tests.proofs.list_held.Held.at.Goals as goal

pub returns : goal.returns
returns c = rw (← c.self.view_is) (λ i e.
    let s = c.self.inside in let q = c.in_ok-in_slot.field-0 in
    item_found s.seqs q c.args.place i (held_live s.seqs c.deref.result.now s.slots.items c.args.slot q c.self.invariant c.deref.ensures.value (c.in_slot.ensures q c.in_ok-in_slot.was)) (λ xs k. sym e ∙ c.at.ensures xs k))
