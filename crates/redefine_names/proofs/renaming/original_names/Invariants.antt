use Rattle.std.proofs.Common.{◌≡◌, ℕ, ◌<◌, None, length, take, if◌then◌else◌}
use Rattle.std.specs.Prelude.{slice_index_or}
use Rattle.redefine_names.specs.VersionNames.{version_at}
use Rattle.redefine_names.specs.Renamed.{is_original}
use Rattle.redefine_names.proofs.renaming.original_names.Given as goal

abbrev pub invariant-loop-original : goal.invariant-loop-original
invariant-loop-original l = record {
  many : length l.table.items ≡ length l.reps;
  put : (place : ℕ) → place < length l.reps → slice_index_or l.table.items place None ≡ (if is_original (take l.original-index l.originals) place then version_at l.names l.reps place else None);
}
