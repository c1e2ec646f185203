-- The assessment of one element and its attributes, by what governs it and what it has to show (Structures 3.3.4, 3.3.5, 3.4.4).
use Rattle.std.specs.Prelude.{◌≡◌}
use Rattle.xs_names.specs.Names.{NameTable}
use Rattle.xs_components.specs.Tables.{Tables}
use Rattle.assess_records.specs.declared.shape.ElementShape.{ElementShape}
use Rattle.assess_records.specs.Instance.{instance_text}
use Rattle.assess_records.specs.declared.instance_names.InstanceAttribute.TheVariants.{TypeName}
use Rattle.attr_assess.specs.Assessed.{AreAttrsAssessed}
use Rattle.attr_assess.specs.declared.assessed.AssessedAttrs.{AssessedAttrs}
use Rattle.elem_governing.specs.LocalType.{xsi_type}
use Rattle.elem_governing.specs.declared.pairs.Governing.{Governing}
use Rattle.elem_governing.specs.declared.local_types.XsiType.{XsiType}
use Rattle.elem_assess.specs.Judged.{IsElementJudged}
use Rattle.elem_assess.specs.declared.records.Judged.{Judged}

-- what xsi:type says on an element of this shape
abbrev pub said_on : NameTable → Tables → Governing → ElementShape → XsiType
said_on names t g shape = xsi_type names t g.declaration (instance_text names shape.attrs TypeName) shape.scope

-- The records and the values of an element and of its attributes: the attributes by the governing type, and the element by what
-- governs it, by its shape, and by what was found out about its attributes.
pub record IsLocal (names : NameTable) (t : Tables) (g : Governing) (shape : ElementShape) (judged : Judged) : Type 0 where
  pub attributes : AssessedAttrs
  pub assessed : AreAttrsAssessed names t g.of shape.scope shape.attrs attributes
  pub known : IsElementJudged names t g (said_on names t g shape) shape attributes.records attributes.missing judged.element judged.value
  pub attrs_are : judged.attrs ≡ attributes.records
  pub attr_values_are : judged.attr_values ≡ attributes.values
