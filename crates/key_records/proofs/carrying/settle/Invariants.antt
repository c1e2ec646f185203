use Rattle.identity_constraints.specs.Counting.{Links, IsLinked}
use Rattle.key_records.specs.Tables.{AreParents, ArePending, AreTold, HasSameOwn, for_key, level}
use Rattle.key_records.proofs.carrying.settle.Given as goal

abbrev pub invariant-loop-waits : goal.invariant-loop-waits
invariant-loop-waits l = record {
  pending : (t : Links) → IsLinked t → AreParents t l.parents → ArePending t l.key l.tuple l.initial.tables l.initial.waits → ArePending t l.key l.tuple l.tables l.waits;
  own : HasSameOwn l.initial.tables l.tables;
  told : AreTold (for_key l.key l.tuple) l.initial.tables l.tables l.initial.told.items l.told.items;
}

abbrev pub decreases-loop-waits : goal.decreases-loop-waits
decreases-loop-waits l = level l.waits
