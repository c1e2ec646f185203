-- The records and the values of an element and of its attributes are determined where a text has one outcome by each type.
use Rattle.std.proofs.Common.{◌≡◌, ℕ, Bool, true, false, Option, None, Some, List, [], ◌∷◌, ◌++◌, length, refl, sym, ap, ◌∙◌, subst, arith}
use Rattle.std.specs.Prelude.{Result, Ok, Err, ◌^◌}
use Rattle.xs_names.specs.Names.{NameTable, IsSound}
use Rattle.xs_codes.specs.declared.code.Code.{Code}
use Rattle.xs_codes.specs.declared.fault.Found.{Found}
use Rattle.xs_components.specs.Tables.{Tables}
use Rattle.xs_components.specs.declared.common.TypeId.{TypeId}
use Rattle.xs_components.specs.declared.common.ValueConstraint.{ValueConstraint}
use Rattle.simple_values.specs.declared.value.Value.{Value}
use Rattle.facets.specs.Trying.{Scope}
use Rattle.assess_records.specs.declared.record.AttrRecord.{AttrRecord}
use Rattle.assess_records.specs.declared.record.ElementRecord.{ElementRecord}
use Rattle.assess_records.specs.declared.shape.ElementShape.{ElementShape}
use Rattle.component_tables.specs.ContentTypes.{content_of}
use Rattle.component_tables.specs.declared.content_types.ContentType.{ContentType}
use Rattle.component_tables.specs.declared.content_types.ContentType.TheVariants.{SimpleType, Empty, SimpleContent, ElementOnly, Mixed}
use Rattle.attr_assess.specs.Lacking.{is_missing}
use Rattle.attr_assess.specs.Added.{AreNamed}
use Rattle.attr_assess.specs.Assessed.{element_uses}
use Rattle.elem_governing.specs.declared.pairs.Governing.{Governing}
use Rattle.elem_governing.specs.declared.local_types.XsiType.{XsiType}
use Rattle.elem_codes.specs.declared.outcome.TextOutcome.{TextOutcome}
use Rattle.elem_codes.specs.declared.outcome.TextOutcome.TheVariants.{Valid}
use Rattle.elem_codes.specs.Facts.{is_taken, governing_content}
use Rattle.elem_codes.specs.Used.{value_in, text_used, scope_used, fixed_value}
use Rattle.elem_codes.specs.Codes.{declaration_codes, type_codes, nil_codes, missing_code, missing_codes, filled_codes, by_content, governed_codes, fixed_codes}
use Rattle.elem_codes.specs.Records.{decl, nil_text, nil, taken, constraint, record_with, element_record}
use Rattle.elem_assess.specs.Texts.{is_value, IsMet, IsOutcome, IsRead, is_read, IsReadIf, IsTextOutcome}
use Rattle.elem_assess.specs.Judged.{IsElementJudged}
use Rattle.elem_assess.specs.Local.{IsLocal, said_on}
use Rattle.elem_assess.specs.declared.records.Judged.{Judged}
use Rattle.simple_types.specs.Determined.{HasOneOutcomeEach}
use Rattle.assessment_laws.proofs.Attrs.{assessed-same}
use Rattle.assessment_laws.proofs.Named.{those-as-many}

-- ---- what the text of an element comes to

module _ (t : Tables) (one : HasOneOutcomeEach t) where
  met-is : (of : TypeId) (fixed : Option ValueConstraint) (value : Value) (a b : Bool) → IsMet t of fixed value a → IsMet t of fixed value b → a ≡ b
  met-is of None value a b x y = x ∙ sym y
  met-is of (Some c) value a b x y = x.2 ∙ (ap (is_value value) (one of c.scope c.text x.0 y.0 x.1 y.1) ∙ sym y.2)

  outcome-is : (of : TypeId) (fixed : Option ValueConstraint) (read : Result Value Code) (a b : TextOutcome) → IsOutcome t of fixed read a → IsOutcome t of fixed read b → a ≡ b
  outcome-is of fixed (Err code) a b x y = x ∙ sym y
  outcome-is of fixed (Ok value) a b x y = x.2 ∙ (ap (λ met. Valid value met) (met-is of fixed value x.0 y.0 x.1 y.1) ∙ sym y.2)

  read-is : (of : TypeId) (fixed : Option ValueConstraint) (scope : Scope) (text : List ℕ) (a b : TextOutcome) → IsRead t of fixed scope text a → IsRead t of fixed scope text b → a ≡ b
  read-is of fixed scope text a b x y =
      outcome-is of fixed y.0 a b (subst (λ (r : Result Value Code). IsOutcome t of fixed r a) (one of scope text x.0 y.0 x.1 y.1) x.2) y.2

  read-if-is : (by : Bool) (of : TypeId) (takes : Bool) (value : Option ValueConstraint) (shape : ElementShape) (a b : TextOutcome) → IsReadIf by t of takes value shape a → IsReadIf by t of takes value shape b → a ≡ b
  read-if-is false of takes value shape a b x y = x ∙ sym y
  read-if-is true of takes value shape a b x y = read-is of (fixed_value takes value) (scope_used takes value shape) (text_used takes value shape) a b x y

  text-outcome-is : (of : Option TypeId) (is : Bool) (value : Option ValueConstraint) (shape : ElementShape) (a b : TextOutcome) → IsTextOutcome t of is value shape a → IsTextOutcome t of is value shape b → a ≡ b
  text-outcome-is None is value shape a b x y = x ∙ sym y
  text-outcome-is (Some of) is value shape a b x y = read-if-is (is_read (content_of t of) is shape) of (is_taken is value shape) value shape a b x y

-- ---- required attributes that are missing enter a record by their number alone

module _ (xs ys : List ℕ) where
  module _ (same : missing_codes xs ≡ missing_codes ys) where
    content-same : (names : NameTable) (empty : Bool) (content : ContentType) (shape : ElementShape) (text : List ℕ) (outcome : TextOutcome) →
        by_content names empty content shape text outcome xs ≡ by_content names empty content shape text outcome ys
    content-same names empty SimpleType shape text outcome = refl
    content-same names empty Empty shape text outcome = ap (λ cs. filled_codes empty Empty shape text outcome ++ cs) same
    content-same names empty SimpleContent shape text outcome = ap (λ cs. filled_codes empty SimpleContent shape text outcome ++ cs) same
    content-same names empty ElementOnly shape text outcome = ap (λ cs. filled_codes empty ElementOnly shape text outcome ++ cs) same
    content-same names empty Mixed shape text outcome = ap (λ cs. filled_codes empty Mixed shape text outcome ++ cs) same

    governed-same : (names : NameTable) (empty : Bool) (content : Option ContentType) (shape : ElementShape) (text : List ℕ) (outcome : TextOutcome) →
        governed_codes names empty content shape text outcome xs ≡ governed_codes names empty content shape text outcome ys
    governed-same names empty None shape text outcome = refl
    governed-same names empty (Some content) shape text outcome = content-same names empty content shape text outcome

    record-same : (names : NameTable) (t : Tables) (g : Governing) (shape : ElementShape) (said : XsiType) (outcome : TextOutcome) (attrs : List AttrRecord) →
        element_record names t g shape said xs outcome attrs ≡ element_record names t g shape said ys outcome attrs
    record-same names t g shape said outcome attrs =
        let value = constraint names t g shape in
        let is = nil names t g shape in
        let takes = taken names t g shape in
        let content = governing_content t g.of in
        ap (λ (codes : List Found). record_with g said shape attrs takes
        ((declaration_codes g said (decl names t g shape) ++ (type_codes t g said ++ (nil_codes (decl names t g shape) value (nil_text names t g shape) is shape ++
        (codes ++ fixed_codes is content (fixed_value takes value) shape outcome)))) ++ (shape.identity ++ shape.ids)))
        (governed-same names is content shape (text_used takes value shape) outcome)

missing-same : (xs ys : List ℕ) → length xs ≡ length ys → missing_codes xs ≡ missing_codes ys
missing-same [] [] e = refl
missing-same [] (y ∷ ys) e = absurd (omega (arith, e))
missing-same (x ∷ xs) [] e = absurd (omega (arith, e))
missing-same (x ∷ xs) (y ∷ ys) e = ap (λ cs. missing_code x ∷ cs) (missing-same xs ys (omega (arith, e)))

-- ---- an element with its attributes

module _ (names : NameTable) (t : Tables) (one : HasOneOutcomeEach t) (g : Governing) (shape : ElementShape) where
  element-is : (said : XsiType) (attrs : List AttrRecord) (xs ys : List ℕ) → length xs ≡ length ys → (e f : ElementRecord) (v w : Option Value) →
      IsElementJudged names t g said shape attrs xs e v → IsElementJudged names t g said shape attrs ys f w → (e ≡ f) × (v ≡ w)
  element-is said attrs xs ys size e f v w x y =
      let same = text-outcome-is t one g.of (nil names t g shape) (constraint names t g shape) shape x.outcome y.outcome x.text y.text in (
        x.record_is ∙ (ap (λ (o : TextOutcome). element_record names t g shape said xs o attrs) same ∙
            (record-same xs ys (missing-same xs ys size) names t g shape said y.outcome attrs ∙ sym y.record_is)),
        x.value_is ∙ (ap value_in same ∙ sym y.value_is),
      )

  pub local-is : IsSound names → AreNamed names t → (a b : Judged) → IsLocal names t g shape a → IsLocal names t g shape b → a ≡ b
  local-is sound named a b x y =
      let attrs = assessed-same t one names sound named g.of shape.scope shape.attrs x.attributes y.attributes x.assessed y.assessed in
      let size = those-as-many (is_missing t (element_uses t g.of) shape.attrs) (2 ^ 32) x.attributes.missing y.attributes.missing x.assessed.missing y.assessed.missing in
      let known = subst (λ (rs : List AttrRecord). IsElementJudged names t g (said_on names t g shape) shape rs x.attributes.missing a.element a.value) attrs.0 x.known in
      let own = element-is (said_on names t g shape) y.attributes.records x.attributes.missing y.attributes.missing size a.element b.element a.value b.value known y.known in
      let records : a.attrs ≡ b.attrs = x.attrs_are ∙ (attrs.0 ∙ sym y.attrs_are) in
      let values : a.attr_values ≡ b.attr_values = x.attr_values_are ∙ (attrs.1 ∙ sym y.attr_values_are) in
      λ i. record { element = own.0 i; value = own.1 i; attrs = records i; attr_values = values i }
