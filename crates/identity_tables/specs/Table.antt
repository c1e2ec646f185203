-- Which IDs and references a table has.
use Rattle.std.specs.Prelude.{◌≡◌, ℕ, ◌+◌, ◌==◌, ◌&&◌, Bool, List, bytes_eq}
use Rattle.std.specs.List.{count_by}
use Rattle.identity_tables.specs.IdTable.{id_count, reference_count}
use Rattle.identity_tables.specs.Entries.{IdEntries}
use Rattle.identity_tables.specs.Ids.{BorneAtom, BorneId, ids, references}

-- the element bears the ID
abbrev pub is_borne : List ℕ → ℕ → BorneId → Bool
is_borne id bearer b = bytes_eq b.id id && (b.bearer == bearer)

abbrev pub is_reference : List ℕ → List ℕ → Bool
is_reference id reference = bytes_eq reference id

-- the table has each ID of these atoms for its bearer, and each reference, as often as they have it
pub record IsTableOf (table : IdEntries) (atoms : List BorneAtom) : Type 0 where
  pub ids_are : (id : List ℕ) (bearer : ℕ) → id_count table id bearer ≡ count_by (is_borne id bearer) (ids atoms)
  pub references_are : (id : List ℕ) → reference_count table id ≡ count_by (is_reference id) (references atoms)

-- the one table has these IDs and references more than the other, and all else as often
pub record IsGrown (fewer more : IdEntries) (own : List BorneId) (refs : List (List ℕ)) : Type 0 where
  pub ids_grown : (id : List ℕ) (bearer : ℕ) → id_count more id bearer ≡ id_count fewer id bearer + count_by (is_borne id bearer) own
  pub references_grown : (id : List ℕ) → reference_count more id ≡ reference_count fewer id + count_by (is_reference id) refs
