use Rattle.std.proofs.Common.{◌≡◌, All, vec_len}
use Rattle.tree_rows.specs.Forest.{Document}
use Rattle.what_is_found.specs.Identity.{seen}
use Rattle.kept_above.specs.from_kept_records.Slots.{IsMade}
use Rattle.kept_above.specs.from_kept_records.Found.{IsOver, found_in}
use Rattle.kept_keys.specs.Keys.{IsWhole, KeepsElements}
use Rattle.kept_keys.proofs.Scoped.{AreCodedBut}
use Rattle.kept_keys.proofs.scopes.settle_scopes.Given as goal

-- all elements have their codes but those of the numbers that are left
abbrev pub invariant-left : goal.invariant-left
invariant-left l = record {
  same : l.set ≡ l.initial.set;
  whole : IsWhole l.set l.doc l.kept;
  elements : KeepsElements l.initial.kept l.kept;
  made : All (IsMade l.initial.kept.records.slots) l.numbers.items;
  coded : (d : Document) → IsOver l.initial.set l.doc l.initial.kept.records.slots d → AreCodedBut l.initial.set (seen (found_in l.doc l.initial.kept.records.slots d.forest)) l.kept l.numbers.items l.codes.items;
}

abbrev pub decreases-left : goal.decreases-left
decreases-left l = vec_len l.codes
