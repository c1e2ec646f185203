-- What a step of restriction leaves in force is determined, where it leaves nothing undefined.
use Rattle.std.proofs.Common.{◌≡◌, ℕ, ◌+◌, Bool, true, false, ◌||◌, List, [], ◌∷◌, ◌++◌, None, Some, refl, sym, ap, ◌∙◌, subst, true≢false}
use Rattle.std.specs.Prelude.{is_some, Result, Ok, Err, if◌then◌else◌}
use Rattle.xs_codes.specs.declared.builtin.Builtin.{Builtin}
use Rattle.xs_codes.specs.declared.code.Code.{Code}
use Rattle.xs_components.specs.declared.simple.FacetItem.{FacetItem}
use Rattle.xs_components.specs.declared.simple.FacetKind.{FacetKind}
use Rattle.xs_components.specs.declared.simple.FacetKind.TheVariants as kinds
use Rattle.facet_checks.specs.declared.list.FacetList.{FacetList}
use Rattle.facet_rules.specs.declared.step.Reading.{Reading}
use Rattle.facet_rules.specs.declared.step.Reading.TheVariants as readings
use Rattle.facet_rules.specs.declared.step.ReadFacet.{ReadFacet}
use Rattle.facet_rules.specs.declared.step.ReadStep.{ReadStep}
use Rattle.facet_rules.specs.Defects.{reading_code, is_later, defect_of, is_unread, are_defined}
use Rattle.facet_rules.specs.Merge.{merged}
use Rattle.facet_rules.specs.declared.read.FacetRead.{FacetRead}
use Rattle.facet_rules.specs.Applicable.{fits}
use Rattle.facet_rules.specs.Read.{reading_of, with_read, no_step}
use Rattle.facet_rules.specs.Texts.{pattern_read, IsTextRead}
use Rattle.facets.specs.declared.facets.Facets.{Facets}
use Rattle.facets.specs.declared.known.Judged.{Judged}
use Rattle.facets.specs.declared.known.Known.TheVariants.{Whole}
use Rattle.facets.specs.Source.{family, builtin}
use Rattle.facets.specs.Reading.{value_read, is_read_by_base, IsFitReadIf, IsReadIf, IsReadBehind}
use Rattle.facets.specs.Facets.{facets_by, judged_by, IsStepJudged}
use Rattle.simple_types.proofs.Tried.{facets-read-is}

abbrev is_refused : Reading → Bool
is_refused (readings.Refused code) = true
is_refused _ = false

-- none of these was refused
abbrev AreRead : List ReadFacet → Type 0
AreRead [] = Unit {0}
AreRead (facet ∷ facets) = (is_refused facet.reading ≡ false) × AreRead facets

read-front : (xs ys : List ReadFacet) → AreRead (xs ++ ys) → AreRead xs
read-front [] ys all = tt
read-front (x ∷ xs) ys all = (all.0, read-front xs ys all.1)

read-last : (xs : List ReadFacet) (y : ReadFacet) → AreRead (xs ++ y ∷ []) → is_refused y.reading ≡ false
read-last [] y all = all.0
read-last (x ∷ xs) y all = read-last xs y all.1

not-refused : (r : Reading) (later : Bool) → is_some (reading_code r later) ≡ false → is_refused r ≡ false
not-refused readings.Unfit later e = refl
not-refused (readings.Refused code) true e = absurd (true≢false e)
not-refused (readings.Refused code) false e = absurd (true≢false e)
not-refused readings.Unread later e = refl
not-refused readings.Listed later e = refl
not-refused (readings.Count n) later e = refl
not-refused (readings.Handling handling) later e = refl
not-refused (readings.Limit value) later e = refl

neither-then : (a b r : Bool) → (if a || b then false else r) ≡ true → (a ≡ false) × (r ≡ true)
neither-then true b r e = absurd (true≢false (sym e))
neither-then false true r e = absurd (true≢false (sym e))
neither-then false false r e = (refl, e)

defined-read : (all : List ReadFacet) (index : ℕ) (facets : List ReadFacet) → are_defined all index facets ≡ true → AreRead facets
defined-read all index [] e = tt
defined-read all index (facet ∷ facets) e =
    let both = neither-then (is_some (defect_of facet index all)) (is_unread facet.reading) (are_defined all (index + 1) facets) e in
    (not-refused facet.reading (is_later facet.kind index all) both.0, defined-read all (index + 1) facets both.1)

-- ---- what one facet is read to

pattern-same : (text : List ℕ) (o p : Result (List ℕ) Code) (a b : FacetRead) → a ≡ pattern_read text o → b ≡ pattern_read text p →
    is_refused (reading_of a) ≡ false → is_refused (reading_of b) ≡ false → a ≡ b
pattern-same text (Ok x) (Ok y) a b e g m n = e ∙ sym g
pattern-same text (Ok x) (Err d) a b e g m n = absurd (true≢false (sym (ap (λ (r : FacetRead). is_refused (reading_of r)) g) ∙ n))
pattern-same text (Err c) p a b e g m n = absurd (true≢false (sym (ap (λ (r : FacetRead). is_refused (reading_of r)) e) ∙ m))

text-same : (kind : FacetKind) (of : Builtin) (item : FacetItem) (a b : FacetRead) → IsTextRead kind of item a → IsTextRead kind of item b →
    is_refused (reading_of a) ≡ false → is_refused (reading_of b) ≡ false → a ≡ b
text-same kinds.Pattern of item a b x y m n = pattern-same item.text x.0 y.0 a b x.2 y.2 m n
text-same kinds.Enumeration of item a b x y m n = x ∙ sym y
text-same kinds.WhiteSpace of item a b x y m n = x ∙ sym y
text-same kinds.TotalDigits of item a b x y m n = x ∙ sym y
text-same kinds.FractionDigits of item a b x y m n = x ∙ sym y
text-same kinds.Length of item a b x y m n = x ∙ sym y
text-same kinds.MinLength of item a b x y m n = x ∙ sym y
text-same kinds.MaxLength of item a b x y m n = x ∙ sym y
text-same kinds.MaxInclusive of item a b x y m n = x ∙ sym y
text-same kinds.MaxExclusive of item a b x y m n = x ∙ sym y
text-same kinds.MinExclusive of item a b x y m n = x ∙ sym y
text-same kinds.MinInclusive of item a b x y m n = x ∙ sym y

module _ (base : Facets) where
  fit-same : (by : Bool) (item : FacetItem) (a b : FacetRead) → IsFitReadIf by base item a → IsFitReadIf by base item b →
      is_refused (reading_of a) ≡ false → is_refused (reading_of b) ≡ false → a ≡ b
  fit-same true item a b x y m n = x.2 ∙ (ap value_read (facets-read-is base item.scope item.text x.0 y.0 x.1 y.1) ∙ sym y.2)
  fit-same false item a b x y m n = text-same item.kind (builtin base) item a b x y m n

  read-if-same : (by : Bool) (item : FacetItem) (a b : FacetRead) → IsReadIf by base Whole item a → IsReadIf by base Whole item b →
      is_refused (reading_of a) ≡ false → is_refused (reading_of b) ≡ false → a ≡ b
  read-if-same true item a b x y m n = fit-same (is_read_by_base Whole item.kind) item a b x y m n
  read-if-same false item a b x y m n = x ∙ sym y

  -- ---- what a step is read to

  front-read : (items : List FacetItem) (front step : ReadStep) → IsReadBehind base Whole front items step → AreRead step.facets → AreRead front.facets
  front-read [] front step x all = subst (λ (s : ReadStep). AreRead s.facets) x all
  front-read (item ∷ items) front step x all =
      read-front front.facets (record { kind = item.kind; fixed = item.fixed; at = item.at; reading = reading_of x.0 } ∷ [])
      (front-read items (with_read front item x.0) step x.2 all)

  own-read : (item : FacetItem) (items : List FacetItem) (front step : ReadStep) (read : FacetRead) → IsReadBehind base Whole (with_read front item read) items step →
      AreRead step.facets → is_refused (reading_of read) ≡ false
  own-read item items front step read x all =
      read-last front.facets record { kind = item.kind; fixed = item.fixed; at = item.at; reading = reading_of read } (front-read items (with_read front item read) step x all)

  behind-same : (items : List FacetItem) (front s t : ReadStep) → IsReadBehind base Whole front items s → IsReadBehind base Whole front items t →
      AreRead s.facets → AreRead t.facets → s ≡ t
  behind-same [] front s t x y m n = x ∙ sym y
  behind-same (item ∷ items) front s t x y m n =
      let one : x.0 ≡ y.0 = read-if-same (fits (family base) item.kind) item x.0 y.0 x.1 y.1 (own-read item items front s x.0 x.2 m) (own-read item items front t y.0 y.2 n) in
      behind-same items (with_read front item y.0) s t (subst (λ (r : FacetRead). IsReadBehind base Whole (with_read front item r) items s) one x.2) y.2 m n

  some-defined : (by : Bool) (made : FacetList) → is_some (facets_by base (if by then Some made else None)) ≡ true → by ≡ true
  some-defined true made e = refl
  some-defined false made e = e

  step-read : (step : ReadStep) (judged : Judged) → judged ≡ judged_by base Whole step → is_some judged.facets ≡ true → AreRead step.facets
  step-read step judged e some =
      defined-read step.facets 0 step.facets
      (some-defined (are_defined step.facets 0 step.facets) (merged base.list step) (sym (ap (λ (j : Judged). is_some j.facets) e) ∙ some))

  -- a step that leaves nothing undefined
  pub step-same : (items : List FacetItem) (j k : Judged) → IsStepJudged base Whole items j → IsStepJudged base Whole items k →
      is_some j.facets ≡ true → is_some k.facets ≡ true → j ≡ k
  step-same items j k x y m n =
      x.2 ∙ (ap (judged_by base Whole) (behind-same items no_step x.0 y.0 x.1 y.1 (step-read x.0 j x.2 m) (step-read y.0 k y.2 n)) ∙ sym y.2)
