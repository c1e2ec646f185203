use Rattle.std.proofs.Common.{ℕ, ◌<◌}
use Rattle.particle_restrict.proofs.first.first_target.Given as goal

abbrev pub invariant-loop-j : goal.invariant-loop-j
invariant-loop-j g l = (k : ℕ) → k < l.j → g.P.Pairs.restricts l.pairs l.member k → ⊥
