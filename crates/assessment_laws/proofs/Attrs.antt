-- The records and the values of an element's attributes are determined where a text has one outcome by each type.
use Rattle.std.proofs.Common.{◌≡◌, ℕ, Bool, true, false, List, ◌++◌, Option, None, Some, map, sym, ap, ◌∙◌, subst}
use Rattle.std.specs.Prelude.{Result, Ok, Err, slice_get}
use Rattle.std.specs.List.{AllZip}
use Rattle.std.specs.Option.{IsSomeAnd}
use Rattle.xs_names.specs.Names.{NameTable, IsSound}
use Rattle.xs_codes.specs.declared.code.Code.{Code}
use Rattle.xs_components.specs.Tables.{Tables}
use Rattle.xs_components.specs.declared.attribute.AttributeDecl.{AttributeDecl}
use Rattle.xs_components.specs.declared.attribute.AttrUse.{AttrUse}
use Rattle.xs_components.specs.declared.common.TypeId.{TypeId}
use Rattle.xs_components.specs.declared.common.TypeId.TheVariants.{Builtin}
use Rattle.xs_components.specs.declared.common.ValueConstraint.{ValueConstraint}
use Rattle.attr_uses.specs.declared.entry.UseAt.{UseAt}
use Rattle.simple_values.specs.declared.value.Value.{Value}
use Rattle.facets.specs.Trying.{Scope}
use Rattle.attr_uses.specs.Written.{use_at}
use Rattle.attr_uses.specs.Uses.{use_named}
use Rattle.assess_records.specs.declared.outcome.ValueSource.{ValueSource}
use Rattle.assess_records.specs.declared.outcome.ValueSource.TheVariants.{Given, Schema}
use Rattle.assess_records.specs.declared.shape.NamedText.{NamedText}
use Rattle.attr_assess.specs.Governing.{attr_governing}
use Rattle.attr_assess.specs.declared.governing.AttrGoverning.{AttrGoverning}
use Rattle.attr_assess.specs.declared.governing.AttrGoverning.TheVariants.{Instance, Declared, Unassessed, Refused}
use Rattle.attr_assess.specs.Lacking.{effective_constraint, is_added}
use Rattle.attr_assess.specs.Added.{AreNamed}
use Rattle.attr_assess.specs.Values.{is_value, IsFixedMet, IsMet, IsJudged, IsRead}
use Rattle.attr_assess.specs.Records.{declared, use_constraint, IsDeclaredJudged, IsByDeclaration, IsAttrJudged}
use Rattle.attr_assess.specs.declared.judged.JudgedAttr.{JudgedAttr}
use Rattle.attr_assess.specs.declared.values.AttrText.{AttrText}
use Rattle.attr_assess.specs.declared.values.AttrText.TheVariants.{Valid}
use Rattle.attr_assess.specs.Assessed.{record_of, value_of, element_uses, IsGivenJudged, IsAddedJudged, AreAttrsAssessed}
use Rattle.attr_assess.specs.declared.assessed.AssessedAttrs.{AssessedAttrs}
use Rattle.simple_types.specs.Determined.{HasOneOutcomeEach}
use Rattle.assessment_laws.proofs.Named.{sorted-same}
use Rattle.assessment_laws.proofs.There.{added-in}
use Rattle.assessment_laws.proofs.Zips.{zip-same}

module _ (t : Tables) (one : HasOneOutcomeEach t) where
  -- ---- one attribute, by what governs it

  module _ (of : TypeId) where
    fixed-met-is : (fixed : Bool) (c : ValueConstraint) (value : Value) (a b : Bool) → IsFixedMet t of fixed c value a → IsFixedMet t of fixed c value b → a ≡ b
    fixed-met-is false c value a b x y = x ∙ sym y
    fixed-met-is true c value a b x y = x.2 ∙ (ap (is_value value) (one of c.scope c.text x.0 y.0 x.1 y.1) ∙ sym y.2)

    met-is : (o : Option ValueConstraint) (value : Value) (a b : Bool) → IsMet t of o value a → IsMet t of o value b → a ≡ b
    met-is None value a b x y = x ∙ sym y
    met-is (Some c) value a b x y = fixed-met-is c.fixed c value a b x y

    judged-is : (by_declaration by_use : Option ValueConstraint) (outcome : Result Value Code) (a b : AttrText) → IsJudged t of by_declaration by_use outcome a → IsJudged t of by_declaration by_use outcome b → a ≡ b
    judged-is by_declaration by_use (Err code) a b x y = x ∙ sym y
    judged-is by_declaration by_use (Ok value) a b x y =
        let first = met-is by_declaration value x.0 y.0 x.2 y.2 in
        let second = met-is by_use value x.1 y.1 x.3 y.3 in
        x.4 ∙ ((λ i. Valid value (first i) (second i)) ∙ sym y.4)

    read-is : (by_declaration by_use : Option ValueConstraint) (scope : Scope) (text : List ℕ) (a b : AttrText) → IsRead t of by_declaration by_use scope text a → IsRead t of by_declaration by_use scope text b → a ≡ b
    read-is by_declaration by_use scope text a b x y =
        judged-is by_declaration by_use y.0 a b (subst (λ (r : Result Value Code). IsJudged t of by_declaration by_use r a) (one of scope text x.0 y.0 x.1 y.1) x.2) y.2

  module _ (name : ℕ) (source : ValueSource) (scope : Scope) (text : List ℕ) where
    declared-is : (of : TypeId) (by_declaration by_use : Option ValueConstraint) (a b : JudgedAttr) →
        IsDeclaredJudged t name source scope text of by_declaration by_use a → IsDeclaredJudged t name source scope text of by_declaration by_use b → a ≡ b
    declared-is of by_declaration by_use a b x y = x.2 ∙ (ap (declared name source of) (read-is of by_declaration by_use scope text x.0 y.0 x.1 y.1) ∙ sym y.2)

    by-declaration-is : (o : Option AttributeDecl) (by : Option UseAt) (a b : JudgedAttr) → IsByDeclaration t name source scope text o by a → IsByDeclaration t name source scope text o by b → a ≡ b
    by-declaration-is None by a b x y = x ∙ sym y
    by-declaration-is (Some decl) by a b x y = declared-is decl.of decl.value (use_constraint t by) a b x y

    attr-is : (g : AttrGoverning) (a b : JudgedAttr) → IsAttrJudged t name source scope text g a → IsAttrJudged t name source scope text g b → a ≡ b
    attr-is (Instance kind) a b x y = declared-is (Builtin kind) None None a b x y
    attr-is (Declared attribute by) a b x y = by-declaration-is (slice_get t.attributes.parts attribute) by a b x y
    attr-is Unassessed a b x y = x ∙ sym y
    attr-is (Refused code) a b x y = x ∙ sym y

  -- ---- one that is added

  module _ (name : ℕ) (a b : JudgedAttr) where
    abbrev IsOf : UseAt → AttrUse → JudgedAttr → ValueConstraint → Type 0
    IsOf u part judged c = IsAttrJudged t name Schema c.scope c.text (Declared part.attribute (Some u)) judged

    constraint-is : (u : UseAt) (part : AttrUse) (o : Option ValueConstraint) → IsSomeAnd o (IsOf u part a) → IsSomeAnd o (IsOf u part b) → a ≡ b
    constraint-is u part None x y = absurd x
    constraint-is u part (Some c) x y = attr-is name Schema c.scope c.text (Declared part.attribute (Some u)) a b x y

    part-is : (u : UseAt) (o : Option AttrUse) → IsSomeAnd o (λ (part : AttrUse). IsSomeAnd (effective_constraint t part) (IsOf u part a)) →
        IsSomeAnd o (λ (part : AttrUse). IsSomeAnd (effective_constraint t part) (IsOf u part b)) → a ≡ b
    part-is u None x y = absurd x
    part-is u (Some part) x y = constraint-is u part (effective_constraint t part) x y

    use-is : (o : Option UseAt) → IsSomeAnd o (λ (u : UseAt). IsSomeAnd (use_at t u) (λ (part : AttrUse). IsSomeAnd (effective_constraint t part) (IsOf u part a))) →
        IsSomeAnd o (λ (u : UseAt). IsSomeAnd (use_at t u) (λ (part : AttrUse). IsSomeAnd (effective_constraint t part) (IsOf u part b))) → a ≡ b
    use-is None x y = absurd x
    use-is (Some u) x y = part-is u (use_at t u) x y

  -- ---- all of them

  module _ (names : NameTable) (sound : IsSound names) (named : AreNamed names t) (of : Option TypeId) (scope : Scope) (attrs : List NamedText) where
    given-are : (xs ys : List JudgedAttr) → AllZip (IsGivenJudged names t of scope) attrs xs → AllZip (IsGivenJudged names t of scope) attrs ys → xs ≡ ys
    given-are xs ys a c =
        zip-same (IsGivenJudged names t of scope) (λ attr x y p q. attr-is attr.name Given scope attr.text (attr_governing t names of attr.name) x y p q) attrs xs ys a c

    added-are : (uses : List UseAt) (some more : List ℕ) (xs ys : List JudgedAttr) → some ≡ more → AllZip (IsAddedJudged t uses) some xs → AllZip (IsAddedJudged t uses) more ys → xs ≡ ys
    added-are uses some more xs ys same a c =
        zip-same (IsAddedJudged t uses) (λ name x y p q. use-is name x y (use_named t uses name) p q) more xs ys (subst (λ ns. AllZip (IsAddedJudged t uses) ns xs) same a) c

    pub assessed-same : (x y : AssessedAttrs) → AreAttrsAssessed names t of scope attrs x → AreAttrsAssessed names t of scope attrs y → (x.records ≡ y.records) × (x.values ≡ y.values)
    assessed-same x y a c =
        let uses = element_uses t of in
        let given : a.given ≡ c.given = given-are a.given c.given a.given_are c.given_are in
        let added_names : a.added_names ≡ c.added_names = sorted-same names sound (is_added t uses attrs) a.added_names c.added_names (added-in names t named uses attrs) a.names_are.those c.names_are.those a.names_are.sorted c.names_are.sorted in
        let added : a.added ≡ c.added = added-are uses a.added_names c.added_names a.added c.added added_names a.added_are c.added_are in (
          a.records ∙ ((λ i. map record_of (given i ++ added i)) ∙ sym c.records),
          a.values ∙ ((λ i. map value_of (given i ++ added i)) ∙ sym c.values),
        )
