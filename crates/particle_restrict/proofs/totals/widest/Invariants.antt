use Rattle.std.proofs.Common.{◌≡◌, ◌<◌, length, map, drop}
use Rattle.particle_forms.specs.Ranges.{widest_of}
use Rattle.particle_forms.specs.Steps.{known}
use Rattle.particle_restrict.proofs.totals.widest.Given as goal

abbrev pub invariant-loop-left : goal.invariant-loop-left
invariant-loop-left l = record {
  within : l.left < length l.members;
  so_far : l.all ≡ widest_of (map (known l.table) (drop l.left l.members));
}

abbrev pub decreases-loop-left : goal.decreases-loop-left
decreases-loop-left l = l.left
