-- How many records and codes an element has for its attributes at most.
use Rattle.std.specs.Prelude.{◌≤◌, ◌+◌, ◌^◌, List, All, length}
use Rattle.assess_records.specs.declared.record.AttrRecord.{AttrRecord}
use Rattle.assess_records.specs.declared.shape.NamedText.{NamedText}
use Rattle.attr_assess.specs.declared.assessed.AssessedAttrs.{AssessedAttrs}

-- No two attributes that are added have one name, nor two that are missing; and each record has two codes at most.
pub record AreFew (attrs : List NamedText) (assessed : AssessedAttrs) : Type 0 where
  pub records : length assessed.records ≤ length attrs + 2 ^ 32
  pub each : All (λ (a : AttrRecord). length a.codes ≤ 2) assessed.records
  pub missing : length assessed.missing ≤ 2 ^ 32
