-- A table that has some IDs and references, and maybe others.
use Rattle.std.specs.Prelude.{ℕ, ◌≤◌, List}
use Rattle.std.specs.List.{count_by}
use Rattle.identity_tables.specs.IdTable.{id_count, reference_count}
use Rattle.identity_tables.specs.Entries.{IdEntries}
use Rattle.identity_tables.specs.Ids.{BorneId}
use Rattle.identity_tables.specs.Table.{is_borne, is_reference}

-- it has each of these IDs for its bearer, and each of these references, as often as it stands there
pub record HasCounted (table : IdEntries) (own : List BorneId) (refs : List (List ℕ)) : Type 0 where
  pub ids_have : (id : List ℕ) (bearer : ℕ) → count_by (is_borne id bearer) own ≤ id_count table id bearer
  pub references_have : (id : List ℕ) → count_by (is_reference id) refs ≤ reference_count table id
