-- The record of an element goes by whether it has child elements of each kind, and not by how many.
use Rattle.std.proofs.Common.{◌≡◌, ◌==◌, ℕ, Bool, true, false, not, ◌&&◌, ◌||◌, Option, None, Some, List, [], ◌++◌, length, refl, sym, ap, ◌∙◌, subst}
use Rattle.std.specs.Prelude.{if◌then◌else◌, is_some}
use Rattle.std.specs.List.{list_any, list_all}
use Rattle.xs_names.specs.Names.{NameTable}
use Rattle.xs_codes.specs.declared.code.Code.TheVariants.{CvcElt3_1, CvcElt3_2_1, CvcElt3_2_2, CvcType3_1_1, CvcType3_1_2, CvcComplexType2_1, CvcComplexType2_2, CvcElt5_2_2_1, CvcElt5_2_2_2}
use Rattle.xs_codes.specs.declared.fault.Found.{Found}
use Rattle.xs_components.specs.Tables.{Tables}
use Rattle.xs_components.specs.declared.common.TypeId.{TypeId}
use Rattle.xs_components.specs.declared.common.ValueConstraint.{ValueConstraint}
use Rattle.xs_components.specs.declared.element.ElementDecl.{ElementDecl}
use Rattle.assess_records.specs.declared.counts.ChildCounts.{ChildCounts}
use Rattle.assess_records.specs.declared.outcome.Attempted.TheVariants.{Full, Partial, Untried}
use Rattle.assess_records.specs.declared.record.AttrRecord.{AttrRecord}
use Rattle.assess_records.specs.declared.shape.ElementShape.{ElementShape}
use Rattle.component_tables.specs.ContentTypes.{content_of}
use Rattle.component_tables.specs.declared.content_types.ContentType.{ContentType}
use Rattle.component_tables.specs.declared.content_types.ContentType.TheVariants.{SimpleType, Empty, SimpleContent, ElementOnly, Mixed}
use Rattle.elem_governing.specs.declared.pairs.Governing.{Governing}
use Rattle.elem_governing.specs.declared.local_types.XsiType.{XsiType}
use Rattle.elem_codes.specs.declared.outcome.TextOutcome.{TextOutcome}
use Rattle.elem_codes.specs.Facts.{has_children, is_fixed, governing_content, is_strictly_assessed, is_taken}
use Rattle.elem_codes.specs.Used.{text_used, scope_used, fixed_value}
use Rattle.elem_codes.specs.Codes.{code_if, is_nil_refused, has_other_attributes, simple_text_codes, text_codes, stuck_codes, missing_codes, governed_codes, is_mixed, differs, is_unmet, fixed_codes, declaration_codes, type_codes, nil_codes, local_codes}
use Rattle.elem_codes.specs.Records.{is_invalid, is_full, is_untried, any_invalid, validity_of, attempted_of, record_with, nil_text, decl, constraint, nil, taken, all_codes, element_record}
use Rattle.elem_assess.specs.Local.{IsLocal, said_on}
use Rattle.elem_assess.specs.Texts.{is_simple_content, is_read, IsRead, IsReadIf, IsTextOutcome}
use Rattle.elem_assess.specs.declared.records.Judged.{Judged}
use Rattle.kept_state.specs.Kept.{HaveSameFlags}

module _ (shape : ElementShape) (counts : ChildCounts) (same : HaveSameFlags shape.counts counts) where
  abbrev other : ElementShape
  other = record shape { counts = counts }

  has-same : has_children shape.counts ≡ has_children counts
  has-same = λ i. not (same.valid i) || (not (same.invalid i) || not (same.not_known i))

  -- ---- the text

  text-same : (by : Bool) (c : Option ValueConstraint) → text_used by c other ≡ text_used by c shape
  text-same by None = refl
  text-same by (Some c) = refl

  scope-same : (by : Bool) (c : Option ValueConstraint) → scope_used by c other ≡ scope_used by c shape
  scope-same by None = refl
  scope-same by (Some c) = refl

  taken-same : (is : Bool) (c : Option ValueConstraint) → is_taken is c shape ≡ is_taken is c other
  taken-same is c = ap (λ has. is_some c && (not is && (not has && (length shape.text == 0)))) has-same

  module _ (t : Tables) where
    read-same : (by : Bool) (of : TypeId) (is : Bool) (c : Option ValueConstraint) (outcome : TextOutcome) → IsReadIf by t of is c shape outcome → IsReadIf by t of is c other outcome
    read-same false of is c outcome r = r
    read-same true of is c outcome r =
        subst (λ scope. IsRead t of (fixed_value is c) scope (text_used is c other) outcome) (sym (scope-same is c))
        (subst (λ text. IsRead t of (fixed_value is c) (scope_used is c shape) text outcome) (sym (text-same is c)) r)

    outcome-same : (of : Option TypeId) (is : Bool) (c : Option ValueConstraint) (outcome : TextOutcome) → IsTextOutcome t of is c shape outcome → IsTextOutcome t of is c other outcome
    outcome-same None is c outcome r = r
    outcome-same (Some of) is c outcome r =
        subst (λ by. IsReadIf by t of (is_taken is c other) c other outcome) (ap (λ has. is_simple_content (content_of t of) && (not is && not has)) has-same)
        (subst (λ by. IsReadIf (is_read (content_of t of) is shape) t of by c other outcome) (taken-same is c)
        (read-same (is_read (content_of t of) is shape) of (is_taken is c shape) c outcome r))

  -- ---- the codes

  governed-same : (names : NameTable) (is : Bool) (content : Option ContentType) (text : List ℕ) (outcome : TextOutcome) (missing : List ℕ) →
      governed_codes names is content shape text outcome missing ≡ governed_codes names is content other text outcome missing
  governed-same names is None text outcome missing = refl
  governed-same names is (Some SimpleType) text outcome missing =
      ap (λ has. code_if (has_other_attributes names shape.attrs) CvcType3_1_1 ++ (code_if (not is && has) CvcType3_1_2 ++ simple_text_codes outcome)) has-same
  governed-same names is (Some Empty) text outcome missing =
      ap (λ has. (if is then [] else code_if (has || not (length text == 0)) CvcComplexType2_1 ++ stuck_codes shape.stuck) ++ missing_codes missing) has-same
  governed-same names is (Some SimpleContent) text outcome missing =
      ap (λ has. (if is then [] else (code_if has CvcComplexType2_2 ++ text_codes CvcComplexType2_2 outcome) ++ stuck_codes shape.stuck) ++ missing_codes missing) has-same
  governed-same names is (Some ElementOnly) text outcome missing = refl
  governed-same names is (Some Mixed) text outcome missing = refl

  nil-same : (d : Option ElementDecl) (c : Option ValueConstraint) (xsi : Option (List ℕ)) (is : Bool) → nil_codes d c xsi is shape ≡ nil_codes d c xsi is other
  nil-same d c xsi is =
      ap (λ has. code_if (is_nil_refused d xsi) CvcElt3_1 ++ (code_if (is && not (not has && (length shape.text == 0))) CvcElt3_2_1 ++ code_if (is && is_fixed c) CvcElt3_2_2)) has-same

  fixed-same : (is : Bool) (content : Option ContentType) (fixed : Option ValueConstraint) (outcome : TextOutcome) → fixed_codes is content fixed shape outcome ≡ fixed_codes is content fixed other outcome
  fixed-same is content fixed outcome =
      ap (λ has. (if is_mixed content && not is then code_if (is_some fixed && has) CvcElt5_2_2_1 ++ code_if (differs fixed shape.text) CvcElt5_2_2_2 else []) ++ code_if (is_unmet outcome) CvcElt5_2_2_2) has-same

  module _ (names : NameTable) (t : Tables) (g : Governing) (said : XsiType) (missing : List ℕ) (outcome : TextOutcome) where
    codes-same : all_codes names t g shape said missing outcome ≡ all_codes names t g other said missing outcome
    codes-same =
        let d = decl names t g shape in
        let c = constraint names t g shape in
        let xsi = nil_text names t g shape in
        let is = nil names t g shape in
        let content = governing_content t g.of in
        let by = taken-same is c in
        let text = text-same (is_taken is c other) c in
        let front = nil-same d c xsi is in
        ap (λ b. local_codes names t g said shape missing outcome d c xsi is b ++ (shape.identity ++ shape.ids)) by
        ∙ (λ i. (declaration_codes g said d ++
        (type_codes t g said ++
        (front i ++
        (governed-same names is content (text_used (is_taken is c other) c shape) outcome missing i ++
        fixed-same is content (fixed_value (is_taken is c other) c) outcome i)))) ++ (shape.identity ++ shape.ids))
        ∙ ap (λ (chars : List ℕ). (declaration_codes g said d ++
        (type_codes t g said ++
        (nil_codes d c xsi is other ++
        (governed_codes names is content other chars outcome missing ++
        fixed_codes is content (fixed_value (is_taken is c other) c) other outcome)))) ++ (shape.identity ++ shape.ids)) (sym text)

    -- ---- the record

    attempted-same : (strictly : Bool) (attrs : List AttrRecord) → attempted_of strictly attrs shape.counts ≡ attempted_of strictly attrs counts
    attempted-same true attrs = λ i. if list_all (λ (a : AttrRecord). is_full a.attempted) attrs && (same.partial i && same.untried i) then Full else Partial
    attempted-same false attrs = λ i. if list_all (λ (a : AttrRecord). is_untried a.attempted) attrs && (same.full i && same.partial i) then Untried else Partial

    record-same : (attrs : List AttrRecord) → element_record names t g shape said missing outcome attrs ≡ element_record names t g other said missing outcome attrs
    record-same attrs =
        let strictly = is_strictly_assessed g said in
        let codes = codes-same in
        let by = taken-same (nil names t g shape) (constraint names t g shape) in
        let plain = element_record names t g shape said missing outcome attrs in
        ap (λ (b : Bool). record_with g said shape attrs b (all_codes names t g shape said missing outcome)) by
        ∙ ap (λ (cs : List Found). record_with g said shape attrs (taken names t g other) cs) codes
        ∙ (λ i. record (record_with g said other attrs (taken names t g other) (all_codes names t g other said missing outcome)) {
          validity = invalid-same attrs i;
          attempted = attempted-same strictly attrs i;
        })
      where
        invalid-same : (attrs : List AttrRecord) → validity_of (all_codes names t g other said missing outcome) (is_strictly_assessed g said) (any_invalid attrs shape.counts)
            ≡ validity_of (all_codes names t g other said missing outcome) (is_strictly_assessed g said) (any_invalid attrs counts)
        invalid-same attrs =
            ap (λ none. validity_of (all_codes names t g other said missing outcome) (is_strictly_assessed g said) (list_any (λ (a : AttrRecord). is_invalid a.validity) attrs || not none)) same.invalid

-- what is found out about an element stays
pub local-same : (names : NameTable) (t : Tables) (g : Governing) (shape : ElementShape) (counts : ChildCounts) → HaveSameFlags shape.counts counts →
    (judged : Judged) → IsLocal names t g shape judged → IsLocal names t g (record shape { counts = counts }) judged
local-same names t g shape counts same judged k =
    let said = said_on names t g shape in
    let w = k.known in record {
      attributes = k.attributes;
      assessed = k.assessed;
      known = record {
        outcome = w.outcome;
        text = outcome-same shape counts same t g.of (nil names t g shape) (constraint names t g shape) w.outcome w.text;
        record_is = w.record_is ∙ record-same shape counts same names t g said k.attributes.missing w.outcome k.attributes.records;
        value_is = w.value_is;
      };
      attrs_are = k.attrs_are;
      attr_values_are = k.attr_values_are;
    }
