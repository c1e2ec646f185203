use Rattle.std.proofs.Common.{◌≡◌, ℕ, ◌-◌, None, length}
use Rattle.std.specs.Prelude.{slice_index_or}
use Rattle.component_tables.proofs.globals.lengthen.Given as goal

abbrev pub invariant-loop-globals : goal.invariant-loop-globals
invariant-loop-globals l = (n : ℕ) → slice_index_or l.globals.items n None ≡ slice_index_or l.fn.globals.items n None

abbrev pub decreases-loop-globals : goal.decreases-loop-globals
decreases-loop-globals l = l.count - length l.globals.items
