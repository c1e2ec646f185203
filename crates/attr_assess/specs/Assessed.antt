-- The records of an element's attributes: Structures 3.2.4, 3.4.4 and 3.4.5.
use Rattle.std.specs.Prelude.{◌≡◌, ℕ, ◌^◌, List, [], ◌++◌, Option, None, Some, map}
use Rattle.std.specs.List.{AllZip}
use Rattle.std.specs.Option.{IsSomeAnd}
use Rattle.xs_names.specs.Names.{NameTable}
use Rattle.xs_components.specs.Tables.{Tables}
use Rattle.xs_components.specs.declared.common.TypeId.{TypeId}
use Rattle.attr_uses.specs.declared.entry.UseAt.{UseAt}
use Rattle.simple_values.specs.declared.value.Value.{Value}
use Rattle.facets.specs.Trying.{Scope}
use Rattle.attr_uses.specs.Written.{use_at}
use Rattle.attr_uses.specs.Uses.{use_named}
use Rattle.assess_records.specs.declared.outcome.ValueSource.TheVariants.{Given, Schema}
use Rattle.assess_records.specs.declared.record.AttrRecord.{AttrRecord}
use Rattle.assess_records.specs.declared.shape.NamedText.{NamedText}
use Rattle.attr_assess.specs.Governing.{uses_for, attr_governing}
use Rattle.attr_assess.specs.declared.governing.AttrGoverning.TheVariants.{Declared}
use Rattle.attr_assess.specs.Lacking.{effective_constraint, is_missing, AreThose}
use Rattle.attr_assess.specs.Added.{AreAddedNames}
use Rattle.attr_assess.specs.Records.{IsAttrJudged}
use Rattle.attr_assess.specs.declared.judged.JudgedAttr.{JudgedAttr}
use Rattle.attr_assess.specs.declared.assessed.AssessedAttrs.{AssessedAttrs}

abbrev pub record_of : JudgedAttr → AttrRecord
record_of judged = judged.known

abbrev pub value_of : JudgedAttr → Option Value
value_of judged = judged.value

-- the attribute uses of the governing type of an element, which a skipped element does not have
abbrev pub element_uses : Tables → Option TypeId → List UseAt
element_uses t None = []
element_uses t (Some of) = (uses_for t of).uses

-- an attribute that the element has, by what governs it
abbrev pub IsGivenJudged : NameTable → Tables → Option TypeId → Scope → NamedText → JudgedAttr → Type 0
IsGivenJudged names t of scope attr judged = IsAttrJudged t attr.name Given scope attr.text (attr_governing t names of attr.name) judged

-- Attribute Default (Structures 3.4.5): an attribute that is added has the text of the effective value constraint of its use, which
-- is read in the scope of the schema element that carries it
abbrev pub IsAddedJudged : Tables → List UseAt → ℕ → JudgedAttr → Type 0
IsAddedJudged t uses name judged =
    IsSomeAnd (use_named t uses name) (λ at. IsSomeAnd (use_at t at) (λ part. IsSomeAnd (effective_constraint t part)
    (λ constraint. IsAttrJudged t name Schema constraint.scope constraint.text (Declared part.attribute (Some at)) judged)))

-- The records and the values of an element's attributes, by the governing type of the element: those that it has, in their order, and
-- then those that are added; and the names of the required attributes that are missing.
pub record AreAttrsAssessed (names : NameTable) (t : Tables) (of : Option TypeId) (scope : Scope) (attrs : List NamedText) (assessed : AssessedAttrs) : Type 0 where
  pub given : List JudgedAttr
  pub added : List JudgedAttr
  pub added_names : List ℕ
  pub given_are : AllZip (IsGivenJudged names t of scope) attrs given
  pub names_are : AreAddedNames names t (element_uses t of) attrs added_names
  pub added_are : AllZip (IsAddedJudged t (element_uses t of)) added_names added
  pub records : assessed.records ≡ map record_of (given ++ added)
  pub values : assessed.values ≡ map value_of (given ++ added)
  pub missing : AreThose (is_missing t (element_uses t of) attrs) (2 ^ 32) assessed.missing
