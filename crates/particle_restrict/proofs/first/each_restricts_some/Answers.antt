use Rattle.std.proofs.Common.{ℕ, ◌<◌, refl, arith}
use Rattle.std.proofs.lemmas.Bool.{false≢true}
use Rattle.particle_restrict.proofs.Firsts.{some_more}
use Rattle.particle_restrict.proofs.first.each_restricts_some.Goals as goal

pub returns-in_default : goal.returns-in_default
returns-in_default g c = record {
  some = (
    (λ h. absurd (false≢true h)),
    (λ all. let a = all c.loop-member.member c.loop-member-test.true in
        absurd ((rw c.in_default.is at c.first_target.ensures) a.0 a.1 a.2)),
  );
}

pub loop-member-preserved : goal.loop-member-preserved
loop-member-preserved g c =
    some_more (λ i. (j : ℕ) × (j < c.args.base) × g.P.Pairs.restricts c.args.pairs.now i j) c.loop-member.member c.loop-member.invariant
    (c.in-Some.field-0, c.in-Some.ensures.0, c.in-Some.ensures.1.restricts)

pub returns : goal.returns
returns g c = record { some = ((λ h. (λ i l. c.loop-member.invariant i (omega arith))), (λ all. refl)) }
