-- The codes of identity constraints over what is kept, and what is left as it is where they are made right.
use Rattle.std.specs.Prelude.{◌≡◌, ◌≢◌, ◌↔◌, ℕ, List}
use Rattle.xs_codes.specs.declared.fault.Found.{Found}
use Rattle.identity_constraints.specs.Seen.{KeyForest}
use Rattle.identity_constraints.specs.Satisfied.{identity_at}
use Rattle.compiled_schema.specs.declared.compiled.Compiled.{Compiled}
use Rattle.kept_above.specs.from_kept_records.Slots.{IsMade, kept_at, pair_at}
use Rattle.kept_above.specs.from_kept_state.KeptState.{KeptState}
-- what crates above name of `kept_targets`, passed on
pub use Rattle.kept_targets.specs.Whole.{IsWhole}
pub use Rattle.kept_targets.specs.Kept.{AreTargets, AreTargetsBy}
pub use Rattle.kept_targets.specs.Turned.{Turns, WereTargets}

-- the codes of the identity constraints of the element of a number, in a forest as they see it (Structures 3.11.4)
abbrev pub codes_at : Compiled → KeyForest → ℕ → List Found
codes_at c f n = identity_at c.names c.parts c.identities.items n f

-- something is kept of the same elements, governed as before
pub record KeepsElements (old new : KeptState) : Type 0 where
  pub made : (n : ℕ) → IsMade old.records.slots n ↔ IsMade new.records.slots n
  pub pairs : (n : ℕ) → pair_at new.records.slots n ≡ pair_at old.records.slots n

-- something is kept of the same elements, governed as before and with the same codes
pub record KeepsCodes (old new : KeptState) : Type 0 where
  pub elements : KeepsElements old new
  pub identity : (n : ℕ) → (kept_at new.records.slots n).identity ≡ (kept_at old.records.slots n).identity
  pub ids : new.root_ids ≡ old.root_ids

-- one element has these codes of its identity constraints, and all others those that they had
pub record IsCoded (old new : KeptState) (n : ℕ) (codes : List Found) : Type 0 where
  pub elements : KeepsElements old new
  pub here : (kept_at new.records.slots n).identity ≡ codes
  pub others : (m : ℕ) → m ≢ n → (kept_at new.records.slots m).identity ≡ (kept_at old.records.slots m).identity
  pub ids : new.root_ids ≡ old.root_ids
