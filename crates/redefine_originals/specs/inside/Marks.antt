-- Which documents were looked at, by marks of their places.
use Rattle.std.specs.Prelude.{◌≡◌, ℕ, ◌+◌, ◌-◌, ◌↔◌, List, [], ◌∷◌, Bool, true, false, Contains, length, slice_index_or, if◌then◌else◌}
use Rattle.schema_set.specs.declared.documents.Available.{Available}
use Rattle.schema_set.specs.Order.{IsNumber}
use Rattle.redefine_originals.specs.Versions.{inclusions}

abbrev pub marked : List Bool → ℕ → Bool
marked marks document = slice_index_or marks (document - 1) false

-- the marked documents are those that were seen
abbrev pub AreSeen : List Available → List Bool → List ℕ → Type 0
AreSeen available marks seen = (document : ℕ) → IsNumber available document → (marked marks document ≡ true) ↔ Contains seen document

-- how many documents the unmarked ones, from this number on, include and redefine
abbrev pub weight : List Available → ℕ → List Bool → ℕ
weight available number [] = 0
weight available number (m ∷ marks) = (if m then 0 else length (inclusions available number)) + weight available (number + 1) marks

-- how many documents are left to look at, at most
abbrev pub work : List Available → List Bool → List ℕ → ℕ
work available marks left = weight available 1 marks + length left
