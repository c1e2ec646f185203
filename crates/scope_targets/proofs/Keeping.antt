-- One element kept as other targets.
use Rattle.std.proofs.Common.{◌≡◌, ℕ, zero, suc, List, [], map, Option, None, Some, refl, sym, ap, subst, ◌∙◌}
use Rattle.std.specs.declared.alloc.Global.{Global}
use Rattle.std.specs.declared.vec.Vec.{Vec}
use Rattle.identity_constraints.specs.Counting.{Links}
use Rattle.key_records.specs.Counted.{Counted, no_targets, plus}
use Rattle.key_records.specs.Records.{AreRecords}
use Rattle.key_records.specs.declared.records.KeyRecords.{KeyRecords}
use Rattle.key_records.specs.declared.references.References.{References}
use Rattle.kept_slots.specs.Slots.{at, Writes, Keeps}
use Rattle.scope_targets.specs.Found.{targeting_of}
use Rattle.scope_targets.specs.Targetings.{Targeting}
use Rattle.scope_targets.specs.declared.targetings.ElementTargeting.{ElementTargeting}
use Rattle.scope_targets.specs.Counted.{TargetSlots, counted_all, counted_in, items_of, listed, targets_at}
use Rattle.scope_targets.proofs.Tallies.{counted_found, plus-none, put-counts, taken-counts}

pub none-at : (n : ℕ) → targets_at [] n ≡ []
none-at zero = refl
none-at (suc n) = refl

none-all : no_targets ≡ counted_all []
none-all = refl

pub none-counted : (slots : TargetSlots) → slots ≡ [] → no_targets ≡ counted_all slots
none-counted slots e = none-all ∙ ap counted_all (sym e)

-- nothing was kept
pub none-listed : (slots : TargetSlots) (n : ℕ) → at slots n ≡ None → targets_at slots n ≡ []
none-listed slots n e = ap listed e

pub some-listed : (slots : TargetSlots) (n : ℕ) (v : Vec ElementTargeting Global) → at slots n ≡ Some v → targets_at slots n ≡ items_of v
some-listed slots n v e = ap listed e

-- a place made for a number keeps what is listed
pub reached-then : (old mid new : TargetSlots) (n : ℕ) (x : Option (Vec ElementTargeting Global)) → Keeps old mid → Writes mid new n x → Writes old new n x
reached-then old mid new n x keeps writes = record { here = writes.here; others = λ m off. writes.others m off ∙ keeps m }

-- ---- by the records

module _ (t : Links) (refs : References) (old new : TargetSlots) (n : ℕ) where
  -- all that is kept, with what is to be taken out beside the others
  pub taken-beside : (r : KeyRecords) (found : List ElementTargeting) → Writes old new n None → targets_at old n ≡ map targeting_of found → AreRecords t refs (counted_all old) r
      → AreRecords t refs (plus (counted_all new) (counted_found found)) r
  taken-beside r found writes listed_is are =
      subst (λ (c : Counted). AreRecords t refs c r) (taken-counts old new n writes ∙ ap (λ (found : List Targeting). plus (counted_all new) (counted_in found)) listed_is) are

  -- where nothing was kept, nothing is taken out
  pub taken-none : (r : KeyRecords) → Writes old new n None → at old n ≡ None → AreRecords t refs (counted_all old) r → AreRecords t refs (counted_all new) r
  taken-none r writes e are = subst (λ (c : Counted). AreRecords t refs c r) (plus-none (counted_all new)) (taken-beside r [] writes (none-listed old n e) are)

  pub put-in : (r : KeyRecords) (found : List ElementTargeting) (v : Vec ElementTargeting Global) → targets_at old n ≡ [] → Writes old new n (Some v) → items_of v ≡ map targeting_of found
      → AreRecords t refs (plus (counted_all old) (counted_found found)) r → AreRecords t refs (counted_all new) r
  put-in r found v empty writes same are = subst (λ (c : Counted). AreRecords t refs c r) (sym (put-counts old new n found v empty writes same)) are
