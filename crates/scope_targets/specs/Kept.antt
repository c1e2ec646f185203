-- Targets that are kept by the numbers of elements, with what is counted of them: Structures 3.11.4, 3.11.5.
use Rattle.std.specs.Prelude.{◌≡◌, ◌≢◌, ◌⊎◌, ℕ, false, List, Option}
use Rattle.identity_constraints.specs.Counting.{Links, IsLinked}
use Rattle.key_records.specs.Tables.{AreParents, KeyTuple, parent_in, is_in_table}
use Rattle.identity_tables.specs.KeyTables.{Tables}
use Rattle.key_records.specs.References.{AreReferences}
use Rattle.key_records.specs.Records.{AreRecords}
use Rattle.scope_targets.specs.Targetings.{Targeting}
use Rattle.scope_targets.specs.Counted.{counted_all, targets_at}
use Rattle.scope_targets.specs.declared.keys.CountedKeys.{CountedKeys}

abbrev pub targets_of : CountedKeys → ℕ → List Targeting
targets_of s n = targets_at s.targets n

abbrev pub parent_of : CountedKeys → ℕ → Option ℕ
parent_of s n = parent_in s.parents.items n

-- by the links of the elements: their parents are kept, and the records are right by all targets that are kept
pub record AreKept (t : Links) (s : CountedKeys) : Type 0 where
  pub sound : AreReferences s.references
  pub parents : AreParents t s.parents.items
  pub records : AreRecords t s.references (counted_all s.targets) s.records

abbrev pub CanKeep : CountedKeys → Type 0
CanKeep s = (t : Links) × IsLinked t × AreKept t s

-- one element is kept as these targets, and each other as it was
pub record Retargets (old new : CountedKeys) (n : ℕ) (targets : List Targeting) : Type 0 where
  pub here : targets_of new n ≡ targets
  pub others : (m : ℕ) → m ≢ n → targets_of new m ≡ targets_of old m
  pub parents : new.parents ≡ old.parents
  pub references : new.references ≡ old.references

-- one element has this parent, and nothing else is another
pub record Reparents (old new : CountedKeys) (n : ℕ) (parent : Option ℕ) : Type 0 where
  pub here : parent_of new n ≡ parent
  pub others : (m : ℕ) → m ≢ n → parent_of new m ≡ parent_of old m
  pub targets : new.targets ≡ old.targets
  pub references : new.references ≡ old.references
  pub records : new.records ≡ old.records

-- the elements whose parents are others show nothing
abbrev pub DifferUnseen : Links → Links → Tables → Type 0
DifferUnseen t u tables = (n : ℕ) → (t.parent n ≡ u.parent n) ⊎ ((y : KeyTuple) → is_in_table tables n y ≡ false)
