use Rattle.std.proofs.Common.{arith, ltb-true, lt-ltb}
use Rattle.identity_tables.proofs.Tally as tally
use Rattle.identity_tables.proofs.counts.Counts.has_several.Goals as goal

pub returns-clause-several : goal.returns-clause-several
returns-clause-several g c =
    let es = c.self.inside.counts.entries in
    let len = c.len.ensures.len in
    rw (← c.self.view_is) (
      λ more.
          let h = ltb-true _ _ more in
          tally.several g.K.PartialEq.eq g.met.K.Eq.laws es c.self.invariant.counts_are (omega arith),
      λ some.
          let two = tally.two_from_several g.K.PartialEq.eq g.met.K.Eq.laws es some in
          lt-ltb _ _ (omega arith),
    )
