-- What is counted of targets while elements come and go.
use Rattle.std.specs.Prelude.{◌≡◌, ◌⊎◌, ℕ, List, [], Option, None, Some}
use Rattle.scope_targets.specs.Targetings.{Targeting}
use Rattle.scope_targets.specs.Kept.{AreKept, parent_of, targets_of}
use Rattle.scope_targets.specs.Linked.{links_by}
use Rattle.doc_nodes.specs.Nodes.{Nodes, Has}
use Rattle.doc_changes.specs.Held.{parent_at}
use Rattle.kept_slots.specs.Slots.{at}
use Rattle.child_lists.specs.from_kept_records.Slots.{KeptSlots}
use Rattle.kept_targets.specs.Kept.{sign_at}
use Rattle.kept_targets.specs.declared.keys.ElementSign.{ElementSign}
use Rattle.kept_targets.specs.declared.keys.TargetKeys.{TargetKeys}

-- what is counted is what the targets that are kept come to, by the parents that are kept
abbrev pub IsCounting : TargetKeys → Type 0
IsCounting keys = AreKept (links_by keys.counted.parents.items) keys.counted

-- a number, or one above it by the parents that are kept
pub data IsAtOrAbove (keys : TargetKeys) (n : ℕ) : ℕ → Type 0 where
  itself : IsAtOrAbove keys n n
  above : (p q : ℕ) → IsAtOrAbove keys n p → parent_of keys.counted p ≡ Some q → IsAtOrAbove keys n q

-- each element is kept as targets of scopes at and above it alone
abbrev pub AreScopesAbove : TargetKeys → Type 0
AreScopesAbove keys = (n : ℕ) (a : Targeting) → Has a (targets_of keys.counted n) → IsAtOrAbove keys n a.scope

-- nothing is kept of these any more, and of all others what was
pub record Forgets (old new : TargetKeys) (gone : List ℕ) : Type 0 where
  pub targets : (n : ℕ) → Has n gone → targets_of new.counted n ≡ []
  pub parents : (n : ℕ) → Has n gone → parent_of new.counted n ≡ None
  pub signs : (n : ℕ) → Has n gone → at new.signs n ≡ None
  pub other_targets : (n : ℕ) → ¬ Has n gone → targets_of new.counted n ≡ targets_of old.counted n
  pub other_parents : (n : ℕ) → ¬ Has n gone → parent_of new.counted n ≡ parent_of old.counted n
  pub other_signs : (n : ℕ) → ¬ Has n gone → at new.signs n ≡ at old.signs n
  pub references : new.counted.references ≡ old.counted.references

-- these have these parents and these signs, and all else is as it was
pub record Assigns (parents : ℕ → Option ℕ) (signs : ℕ → Option ElementSign) (old new : TargetKeys) (nodes : List ℕ) : Type 0 where
  pub parents_are : (n : ℕ) → Has n nodes → parent_of new.counted n ≡ parents n
  pub signs_are : (n : ℕ) → Has n nodes → at new.signs n ≡ signs n
  pub other_parents : (n : ℕ) → ¬ Has n nodes → parent_of new.counted n ≡ parent_of old.counted n
  pub other_signs : (n : ℕ) → ¬ Has n nodes → at new.signs n ≡ at old.signs n
  pub targets : (n : ℕ) → targets_of new.counted n ≡ targets_of old.counted n
  pub references : new.counted.references ≡ old.counted.references

-- they have none
abbrev pub Drops : TargetKeys → TargetKeys → List ℕ → Type 0
Drops old new gone = Assigns (λ n. None) (λ n. None) old new gone

-- they have those that they have in a document
abbrev pub Adopts : Nodes → KeptSlots → TargetKeys → TargetKeys → List ℕ → Type 0
Adopts ns ks old new moved = Assigns (parent_at ns) (sign_at ks) old new moved

-- where one of these is kept with another parent than it has in a document, nothing is counted at it, and it is kept as no parent
abbrev pub CanAdopt : Nodes → TargetKeys → List ℕ → Type 0
CanAdopt ns keys moved =
    (n : ℕ) → Has n moved → (parent_of keys.counted n ≡ parent_at ns n) ⊎ (((m : ℕ) (a : Targeting) → Has a (targets_of keys.counted m) → (a.scope ≡ n → ⊥)) × ((c : ℕ) → parent_of keys.counted c ≡ Some n → ⊥))

-- an element is kept as a target of nothing
abbrev pub IsNoTarget : TargetKeys → ℕ → Type 0
IsNoTarget keys n = targets_of keys.counted n ≡ []

-- these are kept as the targets that they are, and each other as it was
pub record Finds (is_target : TargetKeys → ℕ → Type 0) (old new : TargetKeys) (nodes : List ℕ) : Type 0 where
  pub here : (n : ℕ) → Has n nodes → is_target new n
  pub others : (n : ℕ) → ¬ Has n nodes → targets_of new.counted n ≡ targets_of old.counted n
  pub parents : new.counted.parents ≡ old.counted.parents
  pub signs : new.signs ≡ old.signs
  pub references : new.counted.references ≡ old.counted.references
