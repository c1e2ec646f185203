-- The record of an element, by what the text of the element comes to (Structures 3.3.4, 3.3.5).
use Rattle.std.specs.Prelude.{◌≡◌, ℕ, List, Option}
use Rattle.xs_names.specs.Names.{NameTable}
use Rattle.xs_components.specs.Tables.{Tables}
use Rattle.simple_values.specs.declared.value.Value.{Value}
use Rattle.assess_records.specs.declared.record.AttrRecord.{AttrRecord}
use Rattle.assess_records.specs.declared.record.ElementRecord.{ElementRecord}
use Rattle.assess_records.specs.declared.shape.ElementShape.{ElementShape}
use Rattle.elem_governing.specs.declared.pairs.Governing.{Governing}
use Rattle.elem_governing.specs.declared.local_types.XsiType.{XsiType}
use Rattle.elem_codes.specs.declared.outcome.TextOutcome.{TextOutcome}
use Rattle.elem_codes.specs.Used.{value_in}
use Rattle.elem_codes.specs.Records.{nil, constraint, element_record}
use Rattle.elem_assess.specs.Texts.{IsTextOutcome}

-- The record and the value of an element, by what governs it, what xsi:type says on it, its shape, the records of its attributes and
-- the names of the required attributes that are missing (Structures 3.3.4, 3.3.5).
pub record IsElementJudged (names : NameTable) (t : Tables) (g : Governing) (said : XsiType) (shape : ElementShape) (attrs : List AttrRecord) (missing : List ℕ) (element : ElementRecord) (value : Option Value) : Type 0 where
  pub outcome : TextOutcome
  pub text : IsTextOutcome t g.of (nil names t g shape) (constraint names t g shape) shape outcome
  pub record_is : element ≡ element_record names t g shape said missing outcome attrs
  pub value_is : value ≡ value_in outcome
