use Rattle.std.proofs.Common.{arith}
use Rattle.identity_tables.proofs.Tally.{something}
use Rattle.identity_tables.proofs.counts.Counts.is_empty.Goals as goal

pub returns-clause-some : goal.returns-clause-some
returns-clause-some g c =
    rw (← c.self.view_is)
    (λ some. something g.K.PartialEq.eq g.met.K.Eq.laws c.self.inside.counts.entries c.self.inside.total c.self.invariant (grind arith))
