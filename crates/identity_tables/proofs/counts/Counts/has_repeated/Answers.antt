use Rattle.std.proofs.Common.{arith, ltb-true, lt-ltb}
use Rattle.identity_tables.proofs.Tally as tally
use Rattle.identity_tables.proofs.counts.Counts.has_repeated.Goals as goal

pub returns : goal.returns
returns g c =
    let es = c.self.inside.counts.entries in
    let total = c.self.inside.total in
    let len = c.len.ensures.len in
    rw (← c.self.view_is) (
      λ more.
          let h = ltb-true _ _ more in
          tally.has_repeated g.K.PartialEq.eq g.met.K.Eq.laws es total c.self.invariant (omega arith),
      λ some.
          let more = tally.more_from_repeated g.K.PartialEq.eq g.met.K.Eq.laws es total c.self.invariant some in
          lt-ltb _ _ (omega arith),
    )
