use Rattle.std.proofs.Common.{◌≡◌, ℕ, ◌-◌, ◌≤◌, None, length}
use Rattle.std.specs.Prelude.{slice_index_or}
use Rattle.redefine_names.proofs.tables.none_of.Given as goal

abbrev pub invariant-loop-table : goal.invariant-loop-table
invariant-loop-table g l = record {
  many : length l.table.items ≤ l.count;
  none : (place : ℕ) → slice_index_or l.table.items place None ≡ None;
}

abbrev pub decreases-loop-table : goal.decreases-loop-table
decreases-loop-table g l = l.count - length l.table.items
