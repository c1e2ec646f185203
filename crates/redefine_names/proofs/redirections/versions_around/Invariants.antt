use Rattle.std.proofs.Common.{◌≡◌, ℕ, ◌<◌, ◌≤◌, None, length}
use Rattle.std.specs.Prelude.{slice_index_or}
use Rattle.redefine_names.specs.Redirections.{version_above, version_around}
use Rattle.redefine_names.proofs.redirections.versions_around.Given as goal

abbrev pub invariant-loop-place : goal.invariant-loop-place
invariant-loop-place l = record {
  many : length l.table.items ≡ length l.reps;
  done : (p : ℕ) → p < l.place → slice_index_or l.table.items p None ≡ version_around l.reps l.originals p;
  ahead : (p : ℕ) → l.place ≤ p → slice_index_or l.table.items p None ≡ version_above l.reps l.originals l.place p;
}
