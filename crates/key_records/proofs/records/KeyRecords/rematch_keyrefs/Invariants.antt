use Rattle.std.proofs.Common.{◌⊎◌, ℕ, length}
use Rattle.identity_constraints.specs.Counting.{Has}
use Rattle.key_records.specs.Records.{IsMatched, IsRematched}
use Rattle.key_records.proofs.records.KeyRecords.rematch_keyrefs.Given as goal

abbrev pub invariant-keyrefs : goal.invariant-keyrefs
invariant-keyrefs l = record {
  rematched : IsRematched l.references l.initial.self l.self;
  matched : (keyref : ℕ) → Has keyref l.keyrefs → Has keyref l.left ⊎ IsMatched l.references l.self l.scope keyref l.tuple;
}

abbrev pub decreases-keyrefs : goal.decreases-keyrefs
decreases-keyrefs l = length l.left
