-- A record goes by what the counts of child elements tell, and not by the counts.
use Rattle.std.proofs.Common.{◌≡◌, ℕ, Bool, true, false, not, ◌&&◌, ◌||◌, ◌==◌, List, [], ◌++◌, Option, None, Some, if◌then◌else◌, length, is_some, refl, ap, ◌∙◌, subst}
use Rattle.std.specs.List.{list_any, list_all}
use Rattle.xs_names.specs.Names.{NameTable}
use Rattle.xs_codes.specs.declared.code.Code.TheVariants.{CvcElt3_1, CvcElt3_2_1, CvcElt3_2_2, CvcElt5_2_2_1, CvcElt5_2_2_2, CvcType3_1_1, CvcType3_1_2, CvcComplexType2_1, CvcComplexType2_2}
use Rattle.xs_components.specs.Tables.{Tables}
use Rattle.xs_components.specs.declared.common.TypeId.{TypeId}
use Rattle.xs_components.specs.declared.common.ValueConstraint.{ValueConstraint}
use Rattle.xs_components.specs.declared.element.ElementDecl.{ElementDecl}
use Rattle.component_tables.specs.ContentTypes.{content_of}
use Rattle.component_tables.specs.declared.content_types.ContentType.{ContentType}
use Rattle.component_tables.specs.declared.content_types.ContentType.TheVariants.{SimpleType, Empty, SimpleContent, ElementOnly, Mixed}
use Rattle.assess_records.specs.declared.counts.ChildCounts.{ChildCounts}
use Rattle.assess_records.specs.declared.outcome.Attempted.TheVariants.{Full, Partial, Untried}
use Rattle.assess_records.specs.declared.record.AttrRecord.{AttrRecord}
use Rattle.assess_records.specs.declared.shape.ElementShape.{ElementShape}
use Rattle.elem_governing.specs.declared.pairs.Governing.{Governing}
use Rattle.elem_governing.specs.declared.local_types.XsiType.{XsiType}
use Rattle.elem_codes.specs.Codes.{code_if, declaration_codes, type_codes, is_nil_refused, is_fixed_nil, nil_codes, has_other_attributes, text_codes, simple_text_codes, stuck_codes, missing_codes, by_content, governed_codes, is_mixed, differs, is_unmet, fixed_codes}
use Rattle.elem_codes.specs.Facts.{declaration_of, constraint_of, governing_content, is_strictly_assessed, has_children, is_taken}
use Rattle.elem_codes.specs.Records.{is_invalid, is_full, is_untried, validity_of, attempted_of, nil_text, nil, constraint, all_codes, element_record}
use Rattle.elem_codes.specs.Used.{source_of, text_used, fixed_value}
use Rattle.elem_codes.specs.declared.outcome.TextOutcome.{TextOutcome}
use Rattle.elem_assess.specs.Texts.{is_simple_content, IsReadIf, IsTextOutcome}
use Rattle.elem_assess.specs.Local.{IsLocal, said_on}
use Rattle.elem_assess.specs.declared.records.Judged.{Judged}
use Rattle.assessment_laws.specs.Flags.{HaveSameFlags, with_counts}

module _ (shape : ElementShape) (counts : ChildCounts) (same : HaveSameFlags shape.counts counts) where
  abbrev other : ElementShape
  other = with_counts counts shape

  -- ---- the text

  read-alike : (by : Bool) (t : Tables) (of : TypeId) (takes : Bool) (c : Option ValueConstraint) (outcome : TextOutcome) → IsReadIf by t of takes c shape outcome → IsReadIf by t of takes c other outcome
  read-alike false t of takes c outcome h = h
  read-alike true t of takes None outcome h = h
  read-alike true t of takes (Some c) outcome h = h

  text-alike : (t : Tables) (of : Option TypeId) (empty : Bool) (c : Option ValueConstraint) (outcome : TextOutcome) → IsTextOutcome t of empty c shape outcome → IsTextOutcome t of empty c other outcome
  text-alike t None empty c outcome h = h
  text-alike t (Some of) empty c outcome h =
      subst (λ (has : Bool). IsReadIf (is_simple_content (content_of t of) && (not empty && not has)) t of (is_some c && (not empty && (not has && (length shape.text == 0)))) c other outcome)
      same.elements
      (read-alike (is_simple_content (content_of t of) && (not empty && not (has_children shape.counts))) t of (is_some c && (not empty && (not (has_children shape.counts) && (length shape.text == 0)))) c outcome h)

  -- ---- the codes

  taken-alike : (empty : Bool) (c : Option ValueConstraint) → is_taken empty c shape ≡ is_taken empty c other
  taken-alike empty c = ap (λ (has : Bool). is_some c && (not empty && (not has && (length shape.text == 0)))) same.elements

  used-alike : (takes : Bool) (c : Option ValueConstraint) → text_used takes c shape ≡ text_used takes c other
  used-alike takes None = refl
  used-alike takes (Some c) = refl

  nils-alike : (decl : Option ElementDecl) (c : Option ValueConstraint) (xsi : Option (List ℕ)) (empty : Bool) → nil_codes decl c xsi empty shape ≡ nil_codes decl c xsi empty other
  nils-alike decl c xsi empty =
      ap (λ (has : Bool). code_if (is_nil_refused decl xsi) CvcElt3_1 ++ (code_if (empty && not (not has && (length shape.text == 0))) CvcElt3_2_1 ++ code_if (is_fixed_nil empty c) CvcElt3_2_2)) same.elements

  content-alike : (names : NameTable) (empty : Bool) (content : ContentType) (text : List ℕ) (outcome : TextOutcome) (missing : List ℕ) →
      by_content names empty content shape text outcome missing ≡ by_content names empty content other text outcome missing
  content-alike names empty SimpleType text outcome missing =
      ap (λ (has : Bool). code_if (has_other_attributes names shape.attrs) CvcType3_1_1 ++ (code_if (not empty && has) CvcType3_1_2 ++ simple_text_codes outcome)) same.elements
  content-alike names empty Empty text outcome missing =
      ap (λ (has : Bool). (if empty then [] else code_if (has || not (length text == 0)) CvcComplexType2_1 ++ stuck_codes shape.stuck) ++ missing_codes missing) same.elements
  content-alike names empty SimpleContent text outcome missing =
      ap (λ (has : Bool). (if empty then [] else (code_if has CvcComplexType2_2 ++ text_codes CvcComplexType2_2 outcome) ++ stuck_codes shape.stuck) ++ missing_codes missing) same.elements
  content-alike names empty ElementOnly text outcome missing = refl
  content-alike names empty Mixed text outcome missing = refl

  governed-alike : (names : NameTable) (empty : Bool) (content : Option ContentType) (text : List ℕ) (outcome : TextOutcome) (missing : List ℕ) →
      governed_codes names empty content shape text outcome missing ≡ governed_codes names empty content other text outcome missing
  governed-alike names empty None text outcome missing = refl
  governed-alike names empty (Some content) text outcome missing = content-alike names empty content text outcome missing

  fixed-alike : (empty : Bool) (content : Option ContentType) (fixed : Option ValueConstraint) (outcome : TextOutcome) → fixed_codes empty content fixed shape outcome ≡ fixed_codes empty content fixed other outcome
  fixed-alike empty content fixed outcome =
      ap (λ (has : Bool). (if is_mixed content && not empty then code_if (is_some fixed && has) CvcElt5_2_2_1 ++ code_if (differs fixed shape.text) CvcElt5_2_2_2 else []) ++ code_if (is_unmet outcome) CvcElt5_2_2_2) same.elements

  -- ---- the record

  attempted-alike : (strictly : Bool) (attrs : List AttrRecord) → attempted_of strictly attrs shape.counts ≡ attempted_of strictly attrs counts
  attempted-alike true attrs =
      let partial = same.partial in
      let untried = same.untried in
      λ i. if list_all (λ (a : AttrRecord). is_full a.attempted) attrs && (partial i && untried i) then Full else Partial
  attempted-alike false attrs =
      let full = same.full in
      let partial = same.partial in
      λ i. if list_all (λ (a : AttrRecord). is_untried a.attempted) attrs && (full i && partial i) then Untried else Partial

  module _ (names : NameTable) (t : Tables) (g : Governing) (said : XsiType) (missing : List ℕ) (outcome : TextOutcome) (attrs : List AttrRecord) where
    codes-alike : all_codes names t g shape said missing outcome ≡ all_codes names t g other said missing outcome
    codes-alike =
        let decl = declaration_of t g in
        let c = constraint_of decl in
        let empty = nil names t g shape in
        let takes = is_taken empty c shape in
        let also = is_taken empty c other in
        let content = governing_content t g.of in
        let taking = taken-alike empty c in
        let nils = nils-alike decl c (nil_text names t g shape) empty in
        let used = ap (λ (b : Bool). text_used b c shape) taking ∙ used-alike also c in
        let governs = governed-alike names empty content (text_used takes c shape) outcome missing ∙ ap (λ (text : List ℕ). governed_codes names empty content other text outcome missing) used in
        let fixes = fixed-alike empty content (fixed_value takes c) outcome ∙ ap (λ (b : Bool). fixed_codes empty content (fixed_value b c) other outcome) taking in
        λ i. (declaration_codes g said decl ++ (type_codes t g said ++ (nils i ++ (governs i ++ fixes i)))) ++ (shape.identity ++ shape.ids)

    record-alike : element_record names t g shape said missing outcome attrs ≡ element_record names t g other said missing outcome attrs
    record-alike =
        let invalid = same.invalid in
        let codes = codes-alike in
        let attempted = attempted-alike (is_strictly_assessed g said) attrs in
        let taking = taken-alike (nil names t g shape) (constraint names t g shape) in
        λ i. record {
          name = shape.name;
          of = g.of;
          validity = validity_of (codes i) (is_strictly_assessed g said) (list_any (λ (a : AttrRecord). is_invalid a.validity) attrs || not (invalid i));
          attempted = attempted i;
          source = source_of (taking i);
          codes = codes i;
        }

  pub local-alike : (names : NameTable) (t : Tables) (g : Governing) (judged : Judged) → IsLocal names t g shape judged → IsLocal names t g other judged
  local-alike names t g judged h =
      let known = h.known in record {
        attributes = h.attributes;
        assessed = h.assessed;
        known = record {
          outcome = known.outcome;
          text = text-alike t g.of (nil names t g shape) (constraint names t g shape) known.outcome known.text;
          record_is = known.record_is ∙ record-alike names t g (said_on names t g shape) h.attributes.missing known.outcome h.attributes.records;
          value_is = known.value_is;
        };
        attrs_are = h.attrs_are;
        attr_values_are = h.attr_values_are;
      }
