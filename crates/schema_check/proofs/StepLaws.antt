-- What a step of facets comes to is determined, whatever is known of the base (Datatypes 4.3).
use Rattle.std.proofs.Common.{◌≡◌, Bool, true, false, List, [], ◌∷◌, sym, ap, ◌∙◌, subst}
use Rattle.xs_codes.specs.declared.builtin.Builtin.{Builtin}
use Rattle.xs_components.specs.declared.simple.FacetItem.{FacetItem}
use Rattle.xs_components.specs.declared.simple.FacetKind.{FacetKind}
use Rattle.xs_components.specs.declared.simple.FacetKind.TheVariants as kinds
use Rattle.facet_rules.specs.Applicable.{fits}
use Rattle.facet_rules.specs.Read.{with_read, no_step}
use Rattle.facet_rules.specs.Texts.{IsTextRead}
use Rattle.facet_rules.specs.declared.read.FacetRead.{FacetRead}
use Rattle.facet_rules.specs.declared.step.ReadStep.{ReadStep}
use Rattle.facets.specs.declared.facets.Facets.{Facets}
use Rattle.facets.specs.declared.known.Judged.{Judged}
use Rattle.facets.specs.declared.known.Known.{Known}
use Rattle.facets.specs.Source.{family, builtin}
use Rattle.facets.specs.Reading.{value_read, is_read_by_base, IsFitReadIf, IsReadIf, IsReadBehind}
use Rattle.facets.specs.Facets.{judged_by, IsStepJudged}
use Rattle.simple_types.proofs.Tried.{facets-read-is}
use Rattle.schema_check.proofs.PatternLaws.{pattern-reads-one}

text-one : (kind : FacetKind) (of : Builtin) (item : FacetItem) (a b : FacetRead) → IsTextRead kind of item a → IsTextRead kind of item b → a ≡ b
text-one kinds.Pattern of item a b p q = pattern-reads-one item.text a b p q
text-one kinds.Enumeration of item a b p q = p ∙ sym q
text-one kinds.WhiteSpace of item a b p q = p ∙ sym q
text-one kinds.TotalDigits of item a b p q = p ∙ sym q
text-one kinds.FractionDigits of item a b p q = p ∙ sym q
text-one kinds.Length of item a b p q = p ∙ sym q
text-one kinds.MinLength of item a b p q = p ∙ sym q
text-one kinds.MaxLength of item a b p q = p ∙ sym q
text-one kinds.MaxInclusive of item a b p q = p ∙ sym q
text-one kinds.MaxExclusive of item a b p q = p ∙ sym q
text-one kinds.MinExclusive of item a b p q = p ∙ sym q
text-one kinds.MinInclusive of item a b p q = p ∙ sym q

module _ (base : Facets) (known : Known) where
  fit-one : (by : Bool) (item : FacetItem) (a b : FacetRead) → IsFitReadIf by base item a → IsFitReadIf by base item b → a ≡ b
  fit-one true item a b p q = p.2 ∙ (ap value_read (facets-read-is base item.scope item.text p.0 q.0 p.1 q.1) ∙ sym q.2)
  fit-one false item a b p q = text-one item.kind (builtin base) item a b p q

  read-one : (by : Bool) (item : FacetItem) (a b : FacetRead) → IsReadIf by base known item a → IsReadIf by base known item b → a ≡ b
  read-one true item a b p q = fit-one (is_read_by_base known item.kind) item a b p q
  read-one false item a b p q = p ∙ sym q

  pub behind-one : (items : List FacetItem) (front s t : ReadStep) → IsReadBehind base known front items s → IsReadBehind base known front items t → s ≡ t
  behind-one [] front s t p q = p ∙ sym q
  behind-one (item ∷ items) front s t p q =
      let one : p.0 ≡ q.0 = read-one (fits (family base) item.kind) item p.0 q.0 p.1 q.1 in
      behind-one items (with_read front item q.0) s t (subst (λ (r : FacetRead). IsReadBehind base known (with_read front item r) items s) one p.2) q.2

  pub step-one : (items : List FacetItem) (j k : Judged) → IsStepJudged base known items j → IsStepJudged base known items k → j ≡ k
  step-one items j k p q = p.2 ∙ (ap (judged_by base known) (behind-one items no_step p.0 q.0 p.1 q.1) ∙ sym q.2)
