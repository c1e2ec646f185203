-- How many records an element has for its attributes, and how many codes these have.
use Rattle.std.proofs.Common.{◌≡◌, ℕ, ◌+◌, ◌<◌, ◌≤◌, ◌^◌, Bool, true, false, List, ◌++◌, Option, None, Some, map, length, sym, ap, ◌∙◌, subst, arith}
use Rattle.std.specs.Prelude.{All, slice_get}
use Rattle.std.specs.Option.{IsSomeAnd}
use Rattle.std.proofs.lemmas.List.{length-append, length-map, map-append}
use Rattle.std.proofs.lemmas.List.Elements.{All-append, All-contains}
use Rattle.std.proofs.lemmas.Bool.Decides.{Decides-eqb}
use Rattle.std.proofs.lemmas.Map.Steps.{length-le_from_distinct_below}
use Rattle.std.proofs.lemmas.Map.Views.{Contains-from_any}
use Rattle.std.proofs.lemmas.Slice.Zip.{AllZip-long}
use Rattle.xs_codes.specs.declared.code.Code.{Code}
use Rattle.xs_codes.specs.declared.code.Code.TheVariants.{CvcAttribute4, CvcAu}
use Rattle.xs_names.specs.Names.{NameTable}
use Rattle.xs_components.specs.Tables.{Tables}
use Rattle.xs_components.specs.declared.attribute.AttributeDecl.{AttributeDecl}
use Rattle.xs_components.specs.declared.attribute.AttrUse.{AttrUse}
use Rattle.xs_components.specs.declared.common.TypeId.{TypeId}
use Rattle.xs_components.specs.declared.common.TypeId.TheVariants.{Builtin}
use Rattle.xs_components.specs.declared.common.ValueConstraint.{ValueConstraint}
use Rattle.attr_uses.specs.declared.entry.UseAt.{UseAt}
use Rattle.facets.specs.Trying.{Scope}
use Rattle.attr_uses.specs.Written.{use_at}
use Rattle.attr_uses.specs.Uses.{use_named}
use Rattle.assess_records.specs.declared.outcome.ValueSource.{ValueSource}
use Rattle.assess_records.specs.declared.outcome.ValueSource.TheVariants.{Given, Schema}
use Rattle.assess_records.specs.declared.record.AttrRecord.{AttrRecord}
use Rattle.assess_records.specs.declared.shape.NamedText.{NamedText}
use Rattle.attr_assess.specs.Governing.{attr_governing}
use Rattle.attr_assess.specs.declared.governing.AttrGoverning.{AttrGoverning}
use Rattle.attr_assess.specs.declared.governing.AttrGoverning.TheVariants.{Instance, Declared, Unassessed, Refused}
use Rattle.attr_assess.specs.Lacking.{effective_constraint, AreThose}
use Rattle.attr_assess.specs.Records.{codes_if, unless, text_codes, undeclared, IsDeclaredJudged, IsByDeclaration, IsAttrJudged}
use Rattle.attr_assess.specs.declared.judged.JudgedAttr.{JudgedAttr}
use Rattle.attr_assess.specs.declared.values.AttrText.{AttrText}
use Rattle.attr_assess.specs.declared.values.AttrText.TheVariants.{Invalid, Valid}
use Rattle.attr_assess.specs.Assessed.{record_of, element_uses, IsGivenJudged, IsAddedJudged, AreAttrsAssessed}
use Rattle.attr_assess.specs.declared.assessed.AssessedAttrs.{AssessedAttrs}
use Rattle.assessment_laws.specs.Few.{AreFew}
use Rattle.assessment_laws.proofs.AttrZips.{zip-each, all-any}

-- ---- numbers below a bound, each once

those-few : (test : ℕ → Bool) (bound : ℕ) (xs : List ℕ) → AreThose test bound xs → length xs ≤ bound
those-few test bound xs a =
    length-le_from_distinct_below xs bound a.once
    (λ q is. All-contains (λ name. name < bound) xs q a.below (Contains-from_any (λ x y. (Decides-eqb x y).0) q xs is))

-- ---- the codes of an attribute

abbrev IsFew : AttrRecord → Type 0
IsFew a = length a.codes ≤ 2

few-unless : (met : Bool) (code : Code) → length (codes_if (unless met code)) ≤ 1
few-unless true code = omega arith
few-unless false code = omega arith

few-text : (read : AttrText) → length (text_codes read) ≤ 2
few-text (Invalid code) = omega arith
few-text (Valid value by_declaration by_use) =
    omega (arith, length-append (codes_if (unless by_declaration CvcAttribute4)) (codes_if (unless by_use CvcAu)), few-unless by_declaration CvcAttribute4, few-unless by_use CvcAu)

module _ (t : Tables) (name : ℕ) (source : ValueSource) (scope : Scope) (text : List ℕ) where
  few-undeclared : (code : Option Code) (judged : JudgedAttr) → judged ≡ undeclared name source (codes_if code) → IsFew judged.known
  few-undeclared None judged e = subst (λ (j : JudgedAttr). IsFew j.known) (sym e) (omega arith)
  few-undeclared (Some code) judged e = subst (λ (j : JudgedAttr). IsFew j.known) (sym e) (omega arith)

  few-declared : (of : TypeId) (by_declaration by_use : Option ValueConstraint) (judged : JudgedAttr) → IsDeclaredJudged t name source scope text of by_declaration by_use judged → IsFew judged.known
  few-declared of by_declaration by_use judged is = subst (λ (j : JudgedAttr). IsFew j.known) (sym is.2) (few-text is.0)

  few-by : (o : Option AttributeDecl) (by : Option UseAt) (judged : JudgedAttr) → IsByDeclaration t name source scope text o by judged → IsFew judged.known
  few-by None by judged is = few-undeclared None judged is
  few-by (Some decl) by judged is = few-declared decl.of decl.value _ judged is

  few-judged : (g : AttrGoverning) (judged : JudgedAttr) → IsAttrJudged t name source scope text g judged → IsFew judged.known
  few-judged (Instance kind) judged is = few-declared (Builtin kind) None None judged is
  few-judged (Declared attribute by) judged is = few-by (slice_get t.attributes.parts attribute) by judged is
  few-judged Unassessed judged is = few-undeclared None judged is
  few-judged (Refused code) judged is = few-undeclared (Some code) judged is

module _ (t : Tables) (name : ℕ) (judged : JudgedAttr) where
  few-constraint : (u : UseAt) (part : AttrUse) (o : Option ValueConstraint) →
      IsSomeAnd o (λ (c : ValueConstraint). IsAttrJudged t name Schema c.scope c.text (Declared part.attribute (Some u)) judged) → IsFew judged.known
  few-constraint u part None is = absurd is
  few-constraint u part (Some c) is = few-judged t name Schema c.scope c.text (Declared part.attribute (Some u)) judged is

  few-part : (u : UseAt) (o : Option AttrUse) →
      IsSomeAnd o (λ (part : AttrUse). IsSomeAnd (effective_constraint t part) (λ (c : ValueConstraint). IsAttrJudged t name Schema c.scope c.text (Declared part.attribute (Some u)) judged)) →
      IsFew judged.known
  few-part u None is = absurd is
  few-part u (Some part) is = few-constraint u part (effective_constraint t part) is

  few-use : (o : Option UseAt) →
      IsSomeAnd o (λ (u : UseAt). IsSomeAnd (use_at t u) (λ (part : AttrUse). IsSomeAnd (effective_constraint t part) (λ (c : ValueConstraint). IsAttrJudged t name Schema c.scope c.text (Declared part.attribute (Some u)) judged))) →
      IsFew judged.known
  few-use None is = absurd is
  few-use (Some u) is = few-part u (use_at t u) is

-- ---- those of all attributes, and how many there are

module _ (names : NameTable) (t : Tables) (of : Option TypeId) (scope : Scope) (attrs : List NamedText) (assessed : AssessedAttrs) (are : AreAttrsAssessed names t of scope attrs assessed) where
  few-each : All IsFew assessed.records
  few-each =
      subst (All IsFew) (sym (are.records ∙ map-append record_of are.given are.added))
      (All-append IsFew (map record_of are.given) (map record_of are.added)
      (zip-each (IsGivenJudged names t of scope) (λ a. Unit {0}) IsFew record_of
      (λ a judged low is. few-judged t a.name Given scope a.text (attr_governing t names of a.name) judged is) attrs are.given (all-any (λ a. Unit {0}) (λ a. tt) attrs) are.given_are)
      (zip-each (IsAddedJudged t (element_uses t of)) (λ name. Unit {0}) IsFew record_of
      (λ name judged low is. few-use t name judged (use_named t (element_uses t of) name) is) are.added_names are.added (all-any (λ name. Unit {0}) (λ name. tt) are.added_names) are.added_are))

  few-records : length assessed.records ≤ length attrs + 2 ^ 32
  few-records =
      let size : length assessed.records ≡ length (are.given ++ are.added) = ap length are.records ∙ length-map (are.given ++ are.added) record_of in
      omega (
        arith,
        size,
        length-append are.given are.added,
        AllZip-long (IsGivenJudged names t of scope) attrs are.given are.given_are,
        AllZip-long (IsAddedJudged t (element_uses t of)) are.added_names are.added are.added_are,
        those-few _ (2 ^ 32) are.added_names are.names_are.those,
      )

  pub attrs-few : AreFew attrs assessed
  attrs-few = record { records = few-records; each = few-each; missing = those-few _ (2 ^ 32) assessed.missing are.missing }
