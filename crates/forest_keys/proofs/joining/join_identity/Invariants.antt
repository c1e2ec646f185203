use Rattle.std.proofs.Common.{◌≡◌, ◌≤◌, length}
use Rattle.forest_keys.specs.inside.Coded.{coded_from}
use Rattle.forest_keys.proofs.joining.join_identity.Given as goal

abbrev pub invariant-loop-place : goal.invariant-loop-place
invariant-loop-place l = record {
  within : l.place ≤ length l.fn.entries;
  so_far : l.entries ≡ coded_from l.set.names.now l.set.parts.now l.set.identities.now l.place l.fn.entries;
}

abbrev pub decreases-loop-place : goal.decreases-loop-place
decreases-loop-place l = l.place
