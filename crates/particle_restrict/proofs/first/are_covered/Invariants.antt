use Rattle.std.proofs.Common.{ℕ, ◌<◌, ◌||◌, false, IsTrue}
use Rattle.std.specs.Prelude.{slice_index_or}
use Rattle.particle_restrict.proofs.first.are_covered.Given as goal

abbrev pub invariant-loop-j : goal.invariant-loop-j
invariant-loop-j l = (k : ℕ) → k < l.j → IsTrue (slice_index_or l.taken k false || slice_index_or l.optional k false)
