use Rattle.std.proofs.Common.{◌≡◌, ℕ, ◌-◌, None, length}
use Rattle.std.specs.Prelude.{slice_index_or}
use Rattle.component_tables.proofs.symbols.lengthen.Given as goal

abbrev pub invariant-loop-firsts : goal.invariant-loop-firsts
invariant-loop-firsts l = (n : ℕ) → slice_index_or l.firsts.items n None ≡ slice_index_or l.fn.firsts.items n None

abbrev pub decreases-loop-firsts : goal.decreases-loop-firsts
decreases-loop-firsts l = l.count - length l.firsts.items
