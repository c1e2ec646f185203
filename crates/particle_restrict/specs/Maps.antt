-- Mappings from the members of one group to those of another, by their places (Structures 3.9.6).
use Rattle.std.specs.Prelude.{◌≡◌, ◌≢◌, ℕ, ◌<◌, Bool, false, IsTrue, List, length, slice_index, slice_index_or, Contains}
use Rattle.std.specs.List.Sorted.{IsStrictlyIncreasing}

-- the members of the base that the map does not reach may be left out
abbrev pub LeavesOptional : List Bool → List ℕ → Type 0
LeavesOptional optional targets = (j : ℕ) → j < length optional → (Contains targets j → ⊥) → IsTrue (slice_index_or optional j false)

-- where member i restricts member j of the base
module _ (Restricts : ℕ → ℕ → Type 0) where
  -- A complete functional mapping takes each member to a member of the base that it restricts.
  pub record IsMapping (members base : ℕ) (targets : List ℕ) : Type 0 where
    pub each : length targets ≡ members
    pub takes : (i : ℕ) → i < members → (slice_index targets i < base) × Restricts i (slice_index targets i)

  -- RecurseLax: some strictly order-keeping mapping
  abbrev pub HasLaxMap : ℕ → ℕ → Type 0
  HasLaxMap members base = (targets : List ℕ) × IsMapping members base targets × IsStrictlyIncreasing targets

  -- Recurse: some strictly order-keeping mapping, where the members of the base that it does not reach may be left out
  abbrev pub HasMap : ℕ → List Bool → Type 0
  HasMap members optional =
      (targets : List ℕ) × IsMapping members (length optional) targets × IsStrictlyIncreasing targets × LeavesOptional optional targets

  -- the first member of the base that the member restricts
  pub record IsFirst (member target : ℕ) : Type 0 where
    pub restricts : Restricts member target
    pub none_before : (j : ℕ) → j < target → Restricts member j → ⊥

  -- RecurseUnordered: each member goes to the first member of the base that it restricts, no two go to the same, and the members
  -- of the base that are not reached may be left out. (The standard asks for some such mapping; that it is by the first is a choice.)
  pub record IsFirstMap (members : ℕ) (optional : List Bool) (targets : List ℕ) : Type 0 where
    pub each : length targets ≡ members
    pub takes : (i : ℕ) → i < members → (slice_index targets i < length optional) × IsFirst i (slice_index targets i)
    pub apart : (i k : ℕ) → i < k → k < members → slice_index targets i ≢ slice_index targets k
    pub others : LeavesOptional optional targets

  abbrev pub HasFirstMap : ℕ → List Bool → Type 0
  HasFirstMap members optional = (targets : List ℕ) × IsFirstMap members optional targets

  -- MapAndSum: each member restricts some member of the base
  abbrev pub EachRestrictsSome : ℕ → ℕ → Type 0
  EachRestrictsSome members base = (i : ℕ) → i < members → (j : ℕ) × (j < base) × Restricts i j
