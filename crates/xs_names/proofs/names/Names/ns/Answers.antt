use Rattle.xs_names.proofs.KeptLaws.{IsSound-IsKept}
use Rattle.xs_names.proofs.names.Names.ns.Goals as goal

pub returns-clause-sound : goal.returns-clause-sound
returns-clause-sound c = rw (← c.self.view_is) (IsSound-IsKept _ _ _ c.self.invariant)
