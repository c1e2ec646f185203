use Rattle.std.proofs.Common.{ℕ, ◌<◌}
use Rattle.particle_restrict.proofs.first.each_restricts_some.Given as goal

abbrev pub invariant-loop-member : goal.invariant-loop-member
invariant-loop-member g l = (i : ℕ) → i < l.member → (j : ℕ) × (j < l.base) × g.P.Pairs.restricts l.pairs i j
