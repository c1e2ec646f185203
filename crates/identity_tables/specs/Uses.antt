-- What an id's bearers and references come to, and how a table of ids keeps account of them.
use Rattle.std.specs.Prelude.{◌≡◌, ℕ, Bool, ◌&&◌, ◌==◌, nat_eq, nat_lt, if◌then◌else◌, List, length, All, sum_by}
use Rattle.std.specs.List.{IsDistinct}
use Rattle.std.specs.Map.{keys_of, values_of}
use Rattle.std.specs.declared.string.String.{String}
use Rattle.std.specs.declared.alloc.Global.{Global}
use Rattle.std.specs.String.{string_eq}
use Rattle.identity_tables.specs.declared.id_table.Uses.{Uses}
use Rattle.identity_tables.specs.Counts.{AreCounts}

-- 1 where there is a reference and no bearer
abbrev pub missing_weight : Uses → ℕ
missing_weight uses = if nat_lt 0 uses.references && (length uses.bearers == 0) then 1 else 0

-- 1 where there are two different bearers
abbrev pub shared_weight : Uses → ℕ
shared_weight uses = if nat_lt 1 (length uses.bearers) then 1 else 0

-- neither a reference nor a bearer
abbrev pub is_unused : Uses → Bool
is_unused uses = (uses.references == 0) && (length uses.bearers == 0)

-- what is true of the uses of ids that are kept, and of the numbers beside them
pub record IsCensus (ids : List (String Global × Uses)) (references missing shared : ℕ) : Type 0 where
  pub distinct : IsDistinct string_eq (keys_of ids)
  pub counts_are : All (λ uses. AreCounts nat_eq uses.bearers) (values_of ids)
  pub references_are : references ≡ sum_by (λ uses. uses.references) (values_of ids)
  pub missing_is : missing ≡ sum_by missing_weight (values_of ids)
  pub shared_is : shared ≡ sum_by shared_weight (values_of ids)
