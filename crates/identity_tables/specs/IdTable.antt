-- Ids and references to them: Structures 3.15.5.
use Rattle.std.specs.Prelude.{◌≡◌, ◌≢◌, ℕ, ◌+◌, ◌≤◌, ◌==◌, ◌&&◌, nat_eq, if◌then◌else◌, List, [], string_bytes, bytes_eq, Option, None, Some}
use Rattle.std.specs.Map.{lookup}
use Rattle.std.specs.declared.string.String.{String}
use Rattle.std.specs.declared.alloc.Global.{Global}
use Rattle.identity_tables.specs.declared.id_table.Uses.{Uses}
use Rattle.identity_tables.specs.Counts.{count_of}

-- the bearers of an id with their counts, and how often it is referred to
abbrev pub bearers_of : Option Uses → List (ℕ × ℕ)
bearers_of None = []
bearers_of (Some uses) = uses.bearers

abbrev pub references_of : Option Uses → ℕ
references_of None = 0
references_of (Some uses) = uses.references

-- the uses of an id, by its characters
abbrev pub uses_of : List (String Global × Uses) → List ℕ → Option Uses
uses_of ids id = lookup (λ key. bytes_eq id (string_bytes key)) ids

-- how often the id was added for the bearer and not dropped
abbrev pub id_count : List (String Global × Uses) → List ℕ → ℕ → ℕ
id_count ids id bearer = count_of nat_eq (bearers_of (uses_of ids id)) bearer

-- how often a reference to the id was added and not dropped
abbrev pub reference_count : List (String Global × Uses) → List ℕ → ℕ
reference_count ids id = references_of (uses_of ids id)

-- the one table has the id for the bearer once more than the other, and all else as often
pub record IsOneMoreId (fewer more : List (String Global × Uses)) (id : List ℕ) (bearer : ℕ) : Type 0 where
  pub ids : (other : List ℕ) (element : ℕ) → id_count more other element ≡ id_count fewer other element + (if bytes_eq id other && (bearer == element) then 1 else 0)
  pub references : (other : List ℕ) → reference_count more other ≡ reference_count fewer other

-- the one table has a reference to the id more than the other, and all else as often
pub record IsOneMoreReference (fewer more : List (String Global × Uses)) (id : List ℕ) : Type 0 where
  pub ids : (other : List ℕ) (element : ℕ) → id_count more other element ≡ id_count fewer other element
  pub references : (other : List ℕ) → reference_count more other ≡ reference_count fewer other + (if bytes_eq id other then 1 else 0)

-- cvc-id.1 (Structures 3.3.4 and 3.15.4): some reference has no id
abbrev pub HasMissingId : List (String Global × Uses) → Type 0
HasMissingId ids = (id : List ℕ) × (1 ≤ reference_count ids id) × ((bearer : ℕ) → id_count ids id bearer ≡ 0)

-- cvc-id.2 (Structures 3.3.4 and 3.15.4): some id has two different bearers
abbrev pub HasSharedId : List (String Global × Uses) → Type 0
HasSharedId ids = (id : List ℕ) × (one : ℕ) × (other : ℕ) × (one ≢ other) × (1 ≤ id_count ids id one) × (1 ≤ id_count ids id other)

-- the two tables have the same counts
pub record HasSameUses (old new : List (String Global × Uses)) : Type 0 where
  pub ids : (other : List ℕ) (element : ℕ) → id_count new other element ≡ id_count old other element
  pub references : (other : List ℕ) → reference_count new other ≡ reference_count old other
