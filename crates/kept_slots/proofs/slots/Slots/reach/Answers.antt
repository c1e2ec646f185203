use Rattle.std.proofs.Common.{None, get_or, ap, ◌∙◌}
use Rattle.kept_slots.proofs.Reading.{seen-same}
use Rattle.kept_slots.proofs.slots.Slots.reach.Goals as goal

pub returns-in_err-push-clause-same : goal.returns-in_err-push-clause-same
returns-in_err-push-clause-same g c = λ m.
    rw (← c.self.view_is) (seen-same (λ kept. kept.value) c.self.inside.slots.items c.push.new.self.items (λ k. ap (λ xs. get_or xs k None) c.in_err-push.ensures.items ∙ c.loop-self.invariant k) m)

pub returns-clause-same : goal.returns-clause-same
returns-clause-same g c = λ m.
    rw (← c.self.view_is) (seen-same (λ kept. kept.value) c.self.inside.slots.items c.loop-self.self-inside.slots.items c.loop-self.invariant m)
