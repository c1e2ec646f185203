use Rattle.std.proofs.Common.{ℕ, take}
use Rattle.std.specs.Prelude.{Contains}
use Rattle.xs_regex.proofs.program.Program.accepts.Given as goal

abbrev pub invariant-loop-p : goal.invariant-loop-p
invariant-loop-p l = (p : ℕ) → Contains (take l.p-index l.p-items) p → Contains l.self.positions.last p → ⊥
