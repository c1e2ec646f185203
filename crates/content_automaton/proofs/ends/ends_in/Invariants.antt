use Rattle.std.proofs.Common.{ℕ, take}
use Rattle.std.specs.Prelude.{Contains}
use Rattle.content_automaton.proofs.ends.ends_in.Given as goal

abbrev pub invariant-loop-p : goal.invariant-loop-p
invariant-loop-p l = (p : ℕ) → Contains (take l.p-index l.set) p → Contains l.form.table.last p → ⊥
