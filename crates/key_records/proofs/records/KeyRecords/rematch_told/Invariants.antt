use Rattle.std.proofs.Common.{◌⊎◌, ℕ, length}
use Rattle.identity_constraints.specs.Counting.{Has}
use Rattle.key_records.specs.Records.{IsMatched, IsRematched}
use Rattle.key_records.proofs.records.KeyRecords.rematch_told.Given as goal

abbrev pub invariant-told : goal.invariant-told
invariant-told l = record {
  rematched : IsRematched l.references l.initial.self l.self;
  matched : (n : ℕ) → Has n l.told → Has n l.left ⊎ ((keyref : ℕ) → Has keyref l.keyrefs → IsMatched l.references l.self n keyref l.tuple);
}

abbrev pub decreases-told : goal.decreases-told
decreases-told l = length l.left
