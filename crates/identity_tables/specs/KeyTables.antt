-- Tables of identity constraints: Structures 3.11.4 and 3.11.5.
use Rattle.std.specs.Prelude.{◌≡◌, ℕ, ◌+◌, ◌*◌, ◌≤◌, ◌==◌, ◌&&◌, ◌⊎◌, Bool, if◌then◌else◌, List, [], unwrap_or}
use Rattle.std.specs.Map.{lookup}
use Rattle.simple_values.specs.declared.key.Key.{Key}
use Rattle.identity_tables.specs.declared.key_tables.TableId.{TableId}
use Rattle.identity_tables.specs.Counts.{count_of}
use Rattle.identity_tables.specs.Tuple.{same_tuple}

-- each table, by its scope and number, with its tuples and their counts
abbrev pub Tables : Type 0
Tables = List (TableId × List (List Key × ℕ))

abbrev pub same_table : TableId → TableId → Bool
same_table a b = (a.scope == b.scope) && (a.constraint == b.constraint)

-- the tuples of a table with their counts
abbrev pub tuples_of : Tables → ℕ → ℕ → List (List Key × ℕ)
tuples_of tables scope constraint = unwrap_or (lookup (same_table (record { scope = scope; constraint = constraint })) tables) []

-- how often the tuple was added to the table and not dropped
abbrev pub own_count : Tables → ℕ → ℕ → List Key → ℕ
own_count tables scope constraint tuple = count_of same_tuple (tuples_of tables scope constraint) tuple

-- whether a tuple of a table is this tuple of this table
abbrev pub is_entry : ℕ → ℕ → List Key → ℕ → ℕ → List Key → Bool
is_entry scope constraint tuple other_scope other_constraint other = (scope == other_scope) && (constraint == other_constraint) && same_tuple tuple other

-- the one set of tables has the tuple in the table once more than the other, and all else as often
abbrev pub IsOneMoreTuple : Tables → Tables → ℕ → ℕ → List Key → Type 0
IsOneMoreTuple fewer more scope constraint tuple =
    (other_scope other_constraint : ℕ) (other : List Key) → own_count more other_scope other_constraint other
    ≡ own_count fewer other_scope other_constraint other + (if is_entry scope constraint tuple other_scope other_constraint other then 1 else 0)

-- Structures 3.11.4, the node table of a key: the element's own table holds the tuple, or exactly one child element's does.
-- Table 2 k holds the element's own tuples, table 2 k + 1 one entry for each child element that holds the tuple
abbrev pub IsVisible : Tables → ℕ → ℕ → List Key → Type 0
IsVisible tables scope k tuple = (1 ≤ own_count tables scope (2 * k) tuple) ⊎ (own_count tables scope (2 * k + 1) tuple ≡ 1)

-- cvc-identity-constraint.4.1 (Structures 3.11.4): two equal tuples
abbrev pub HasEqualTuples : Tables → ℕ → ℕ → Type 0
HasEqualTuples tables scope constraint = (tuple : List Key) × (2 ≤ own_count tables scope constraint tuple)

-- cvc-identity-constraint.4.3 (Structures 3.11.4): a tuple of a keyref that is not visible
abbrev pub HasTuple : Tables → ℕ → ℕ → Type 0
HasTuple tables scope constraint = (tuple : List Key) × (1 ≤ own_count tables scope constraint tuple)
