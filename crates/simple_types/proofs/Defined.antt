-- A step without a fault leaves its facets defined, where the literals of the base are known.
use Rattle.std.proofs.Common.{◌≡◌, ℕ, ◌+◌, Bool, true, false, ◌||◌, if◌then◌else◌, List, [], ◌∷◌, ◌++◌, Option, None, Some, Result, Ok, Err, ℤ, pos, negsuc, refl, sym, ap, subst, ◌∙◌}
use Rattle.std.specs.Prelude.{is_some, nat_lt, int_lt, bytes_eq, codes}
use Rattle.std.proofs.lemmas.Bool.{false≢true}
use Rattle.dec_value.specs.Decimal.{Decimal}
use Rattle.xs_names.specs.declared.handling.WhiteSpace.TheVariants.{Preserve, Replace, Collapse}
use Rattle.xs_codes.specs.declared.builtin.Builtin.TheVariants as builtins
use Rattle.xs_codes.specs.declared.code.Code.{Code}
use Rattle.xs_codes.specs.declared.code.Code.TheVariants.{XLimitValue, XFacetLiteral}
use Rattle.xs_codes.specs.declared.fault.Fault.{Fault}
use Rattle.xs_components.specs.declared.simple.FacetItem.{FacetItem}
use Rattle.xs_components.specs.declared.simple.FacetKind.{FacetKind}
use Rattle.xs_components.specs.declared.simple.FacetKind.TheVariants as kinds
use Rattle.simple_values.specs.declared.fault.ValueFault.{ValueFault}
use Rattle.simple_values.specs.declared.value.Value.{Value}
use Rattle.simple_values.specs.Reading.{literal_value, value_of}
use Rattle.facet_checks.specs.Check.{number_of}
use Rattle.facet_rules.specs.declared.step.Reading.TheVariants as readings
use Rattle.facet_rules.specs.declared.step.ReadFacet.{ReadFacet}
use Rattle.facet_rules.specs.declared.step.ReadStep.{ReadStep}
use Rattle.facet_rules.specs.First.{Rule, rule, first_from, first_fault}
use Rattle.facet_rules.specs.Defects.{is_unread, are_defined, defect_of, defect_rules, with_defect}
use Rattle.facet_rules.specs.CountRules.{count_rules}
use Rattle.facet_rules.specs.BoundRules.{bound_rules}
use Rattle.facet_rules.specs.Merge.{merged}
use Rattle.facet_rules.specs.Rules.{step_rules}
use Rattle.facet_rules.specs.declared.read.FacetRead.{FacetRead}
use Rattle.facet_rules.specs.Applicable.{fits}
use Rattle.facet_rules.specs.Read.{with_read, no_step, reading_of}
use Rattle.facet_rules.specs.Texts.{way_reading, count_at, whole_count, count_by, count_read, bound_by, bound_read, pattern_read, IsTextRead}
use Rattle.facets.specs.declared.atomic.Accepted.{Accepted}
use Rattle.facets.specs.declared.facets.Facets.{Facets}
use Rattle.facets.specs.declared.known.Judged.{Judged}
use Rattle.facets.specs.declared.known.Known.TheVariants.{Whole}
use Rattle.facets.specs.Source.{family, builtin}
use Rattle.facets.specs.Reading.{value_read, is_read_by_base, IsFitReadIf, IsReadIf, IsFacetRead, IsReadBehind}
use Rattle.facets.specs.Facets.{facets_by, IsStepJudged}
use Rattle.simple_types.proofs.Whole.{first-unbroken}

-- the facet is not left unread
abbrev IsDone : FacetRead → Type 0
IsDone read = is_unread (reading_of read) ≡ false

done-way : (text : List ℕ) → is_unread (way_reading text) ≡ false
done-way text = of (bytes_eq text (codes "preserve")) (bytes_eq text (codes "replace")) (bytes_eq text (codes "collapse"))
  where
    of : (a b c : Bool) → is_unread (if a then readings.Handling Preserve else (if b then readings.Handling Replace else (if c then readings.Handling Collapse else readings.Refused XFacetLiteral))) ≡ false
    of true b c = refl
    of false true c = refl
    of false false true = refl
    of false false false = refl

done-count_at : (least n : ℤ) → is_unread (count_at least n) ≡ false
done-count_at least (negsuc n) = refl
done-count_at least (pos n) = of (int_lt (pos n) least) (nat_lt 4_294_967_295 n)
  where
    of : (a b : Bool) → is_unread (if a then readings.Refused XFacetLiteral else (if b then readings.Refused XLimitValue else readings.Count n)) ≡ false
    of true b = refl
    of false true = refl
    of false false = refl

done-whole : (least : ℤ) (number : Option Decimal) → is_unread (whole_count least number) ≡ false
done-whole least None = refl
done-whole least (Some d) = of (nat_lt 0 d.scale)
  where
    of : (b : Bool) → is_unread (if b then readings.Refused XFacetLiteral else count_at least d.unscaled) ≡ false
    of true = refl
    of false = done-count_at least d.unscaled

done-count : (least : ℤ) (outcome : Result Value ValueFault) → IsDone (count_by least outcome)
done-count least (Ok value) = done-whole least (number_of value)
done-count least (Err fault) = refl

done-bound : (outcome : Result Value ValueFault) → IsDone (bound_by outcome)
done-bound (Ok value) = refl
done-bound (Err fault) = refl

done-pattern : (text : List ℕ) (outcome : Result (List ℕ) Code) → IsDone (pattern_read text outcome)
done-pattern text (Ok pattern) = refl
done-pattern text (Err code) = refl

done-value : (outcome : Result Accepted Code) → IsDone (value_read outcome)
done-value (Ok accepted) = refl
done-value (Err code) = refl

module _ (base : Facets) (item : FacetItem) (read : FacetRead) where
  abbrev Text : FacetKind → Type 0
  Text kind = IsTextRead kind (builtin base) item read

  counted : (least : ℤ) → read ≡ count_read least item → IsDone read
  counted least is = subst IsDone (sym is) (done-count least (literal_value builtins.Integer item.scope item.text))

  bounded : read ≡ bound_read (builtin base) item → IsDone read
  bounded is = subst IsDone (sym is) (done-bound (value_of (builtin base) item.scope item.text))

  -- by the kind of the facet
  fit : (kind : FacetKind) → item.kind ≡ kind → IsFitReadIf (is_read_by_base Whole item.kind) base item read → IsDone read
  fit kinds.Enumeration e is =
      let value = subst (λ kind. IsFitReadIf (is_read_by_base Whole kind) base item read) e is in subst IsDone (sym value.2) (done-value value.0)
  fit kinds.Pattern e is =
      let text = subst Text e (subst (λ kind. IsFitReadIf (is_read_by_base Whole kind) base item read) e is) in subst IsDone (sym text.2) (done-pattern item.text text.0)
  fit kinds.WhiteSpace e is =
      subst IsDone (sym (subst Text e (subst (λ kind. IsFitReadIf (is_read_by_base Whole kind) base item read) e is))) (done-way item.text)
  fit kinds.Length e is = counted (pos 0) (subst Text e (subst (λ kind. IsFitReadIf (is_read_by_base Whole kind) base item read) e is))
  fit kinds.MinLength e is = counted (pos 0) (subst Text e (subst (λ kind. IsFitReadIf (is_read_by_base Whole kind) base item read) e is))
  fit kinds.MaxLength e is = counted (pos 0) (subst Text e (subst (λ kind. IsFitReadIf (is_read_by_base Whole kind) base item read) e is))
  fit kinds.FractionDigits e is = counted (pos 0) (subst Text e (subst (λ kind. IsFitReadIf (is_read_by_base Whole kind) base item read) e is))
  fit kinds.TotalDigits e is = counted (pos 1) (subst Text e (subst (λ kind. IsFitReadIf (is_read_by_base Whole kind) base item read) e is))
  fit kinds.MaxInclusive e is = bounded (subst Text e (subst (λ kind. IsFitReadIf (is_read_by_base Whole kind) base item read) e is))
  fit kinds.MaxExclusive e is = bounded (subst Text e (subst (λ kind. IsFitReadIf (is_read_by_base Whole kind) base item read) e is))
  fit kinds.MinExclusive e is = bounded (subst Text e (subst (λ kind. IsFitReadIf (is_read_by_base Whole kind) base item read) e is))
  fit kinds.MinInclusive e is = bounded (subst Text e (subst (λ kind. IsFitReadIf (is_read_by_base Whole kind) base item read) e is))

  done-if : (b : Bool) → IsReadIf b base Whole item read → IsDone read
  done-if true is = fit item.kind refl is
  done-if false is = subst IsDone (sym is) refl

  done : IsFacetRead base Whole item read → IsDone read
  done is = done-if (fits (family base) item.kind) is

-- no facet is left unread
abbrev AreDone : List ReadFacet → Type 0
AreDone [] = Unit {0}
AreDone (facet ∷ facets) = (is_unread facet.reading ≡ false) × AreDone facets

done-more : (facets : List ReadFacet) (facet : ReadFacet) → AreDone facets → is_unread facet.reading ≡ false → AreDone (facets ++ facet ∷ [])
done-more [] facet h last = (last, tt)
done-more (f ∷ fs) facet h last = (h.0, done-more fs facet h.1 last)

done-step : (base : Facets) (items : List FacetItem) (front step : ReadStep) → IsReadBehind base Whole front items step → AreDone front.facets → AreDone step.facets
done-step base [] front step is h = subst (λ (s : ReadStep). AreDone s.facets) (sym is) h
done-step base (item ∷ items) front step is h =
    done-step base items (with_read front item is.0) step is.2
    (done-more front.facets (record { kind = item.kind; fixed = item.fixed; at = item.at; reading = reading_of is.0 }) h (done base item is.0 is.1))

-- facets without a defect are defined
defined : (all : List ReadFacet) (facets : List ReadFacet) (index : ℕ) (more : List Rule) (best : Option Fault) → first_from best (defect_rules all index facets ++ more) ≡ None → AreDone facets → are_defined all index facets ≡ true
defined all [] index more best e h = refl
defined all (facet ∷ facets) index more best e h = of (defect_of facet index all) (is_unread facet.reading) h.0 e (λ best e. defined all facets (index + 1) more best e h.1)
  where
    of : (defect : Option Code) (unread : Bool) → unread ≡ false → first_from best (with_defect defect facet.at (defect_rules all (index + 1) facets) ++ more) ≡ None
        → ((best : Option Fault) → first_from best (defect_rules all (index + 1) facets ++ more) ≡ None → are_defined all (index + 1) facets ≡ true)
        → (if is_some defect || unread then false else are_defined all (index + 1) facets) ≡ true
    of None true u e rec = absurd (false≢true (sym u))
    of None false u e rec = rec best e
    of (Some code) unread u e rec =
        absurd (false≢true (sym (first-unbroken (rule true facet.at code) (defect_rules all (index + 1) facets ++ more) best e)))

pub step_known : (behind : Facets) (step : List FacetItem) (judged : Judged) → IsStepJudged behind Whole step judged → judged.fault ≡ None → (facets : Facets) × (judged.facets ≡ Some facets)
step_known behind step judged is none =
    let read : ReadStep = is.0 in
    let done = done-step behind step no_step read is.1 tt in
    let first : first_fault (step_rules behind.list read.facets) ≡ None = sym (ap (λ (j : Judged). j.fault) is.2) ∙ none in
    let whole : are_defined read.facets 0 read.facets ≡ true =
    defined read.facets read.facets 0 (count_rules behind.list read.facets ++ bound_rules behind.list read.facets) None first done in (
      record behind { list = merged behind.list read },
      ap (λ (j : Judged). j.facets) is.2 ∙ ap (λ b. facets_by behind (if b then Some (merged behind.list read) else None)) whole,
    )
