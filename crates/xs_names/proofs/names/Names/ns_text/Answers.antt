use Rattle.xs_names.proofs.KeptLaws.{IsSound-IsKept}
use Rattle.xs_names.proofs.names.Names.ns_text.Goals as goal

pub returns-then-eq-clause-sound : goal.returns-then-eq-clause-sound
returns-then-eq-clause-sound c = rw (← c.self.view_is) (IsSound-IsKept _ _ _ c.self.invariant)

pub returns-else-eq-clause-sound : goal.returns-else-eq-clause-sound
returns-else-eq-clause-sound c = rw (← c.self.view_is) (IsSound-IsKept _ _ _ c.self.invariant)
