-- Chains of originals.
use Rattle.std.specs.Prelude.{◌≡◌, ℕ, ◌-◌, ◌⊎◌, List, Bool, true, false, Option, None, Some, length, slice_index_or, sum_by}
use Rattle.schema_set.specs.declared.documents.Available.{Available}
use Rattle.schema_set.specs.Order.{IsNumber}
use Rattle.redefine_originals.specs.Versions.{Version}
use Rattle.redefine_faults.specs.Redefinitions.{GoesTo, GoesBack, is_same_version}

-- the original of a version, or it has none
abbrev pub IsNext : List Available → Version → Option Version → Type 0
IsNext available version None = (original : Version) → GoesTo available version original → ⊥
IsNext available version (Some original) = GoesTo available version original × IsNumber available original.document

-- the chain of the originals of a version comes back to it
abbrev pub ComesBack : List Available → Version → Type 0
ComesBack available version = (back : Version) × GoesBack available version back × (is_same_version back version ≡ true)

abbrev pub marked : List Bool → ℕ → Bool
marked marks document = slice_index_or marks (document - 1) false

abbrev pub one_if_not : Bool → ℕ
one_if_not true = 0
one_if_not false = 1

-- how many documents are not marked
abbrev pub unmarked : List Bool → ℕ
unmarked marks = sum_by one_if_not marks

-- a version of the chain up to now
abbrev pub IsPassed : List Available → Version → List Bool → Version → Type 0
IsPassed available start marks w = (w ≡ start) ⊎ (GoesBack available start w × (marked marks w.document ≡ true))

-- what was passed up to this version: not the start again, and what it goes to was passed, but for that of the last
pub record IsChain (available : List Available) (start : Version) (marks : List Bool) (last : Version) : Type 0 where
  pub len : length marks ≡ length available
  pub there : IsPassed available start marks last
  pub apart : (w : Version) → GoesBack available start w → marked marks w.document ≡ true → is_same_version w start ≡ false
  pub next : (v w : Version) → IsPassed available start marks v → GoesTo available v w → (marked marks w.document ≡ true) ⊎ (v ≡ last)
