use Rattle.std.proofs.Common.{◌≡◌, ◌<◌, ◌^◌, ◌++◌, drop}
use Rattle.std.specs.Prelude.{All}
use Rattle.std.specs.List.{flat_map}
use Rattle.reference_faults.specs.Limit.{place_of}
use Rattle.reference_faults.proofs.limit.component_places.Given as goal

abbrev pub invariant-loop-rep : goal.invariant-loop-rep
invariant-loop-rep l = record {
  places : l.places.items ++ flat_map place_of (drop l.rep-index l.reps) ≡ flat_map place_of l.reps;
  within : All (λ at. at.item < 2 ^ 32) l.places.items;
}
