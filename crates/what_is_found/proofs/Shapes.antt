-- What an element is judged by depends on its child elements by whether there are any, and on codes not at all.
use Rattle.std.proofs.Common.{◌≡◌, ℕ, ◌==◌, ◌&&◌, ◌||◌, Bool, true, false, if◌then◌else◌, Option, None, Some, List, [], ◌∷◌, ◌++◌, length, refl, sym, ap, ◌∙◌, subst, append-nil, true≢false}
use Rattle.std.specs.Prelude.{not, is_some}
use Rattle.std.specs.List.{list_any, list_all}
use Rattle.xs_names.specs.Names.{NameTable}
use Rattle.xs_codes.specs.declared.code.Code.TheVariants.{CvcElt3_1, CvcElt3_2_1, CvcElt3_2_2, CvcElt5_2_2_1, CvcElt5_2_2_2, CvcType3_1_1, CvcType3_1_2, CvcComplexType2_1, CvcComplexType2_2}
use Rattle.xs_codes.specs.declared.fault.Found.{Found}
use Rattle.xs_components.specs.Tables.{Tables}
use Rattle.xs_components.specs.declared.common.TypeId.{TypeId}
use Rattle.xs_components.specs.declared.common.ValueConstraint.{ValueConstraint}
use Rattle.xs_components.specs.declared.element.ElementDecl.{ElementDecl}
use Rattle.component_tables.specs.ContentTypes.{content_of}
use Rattle.component_tables.specs.declared.content_types.ContentType.{ContentType}
use Rattle.component_tables.specs.declared.content_types.ContentType.TheVariants.{SimpleType, Empty, SimpleContent, ElementOnly, Mixed}
use Rattle.assess_records.specs.declared.outcome.Attempted.TheVariants.{Full, Partial, Untried}
use Rattle.assess_records.specs.declared.counts.ChildCounts.{ChildCounts}
use Rattle.assess_records.specs.declared.record.AttrRecord.{AttrRecord}
use Rattle.assess_records.specs.declared.record.ElementRecord.{ElementRecord}
use Rattle.assess_records.specs.declared.shape.ElementShape.{ElementShape}
use Rattle.elem_governing.specs.declared.pairs.Governing.{Governing}
use Rattle.elem_governing.specs.declared.local_types.XsiType.{XsiType}
use Rattle.elem_codes.specs.declared.outcome.TextOutcome.{TextOutcome}
use Rattle.elem_codes.specs.Facts.{governing_content, is_strictly_assessed, is_taken, has_children}
use Rattle.elem_codes.specs.Used.{text_used, scope_used, fixed_value, source_of}
use Rattle.elem_codes.specs.Codes.{governed_codes, by_content, local_codes, declaration_codes, type_codes, nil_codes, fixed_codes, code_if, is_nil_refused, is_fixed_nil, has_other_attributes, simple_text_codes, text_codes, stuck_codes, missing_codes, is_mixed, differs, is_unmet}
use Rattle.elem_codes.specs.Records.{validity_of, attempted_of, is_invalid, is_full, is_untried, nil_text, decl, constraint, nil, taken, all_codes, element_record}
use Rattle.elem_assess.specs.Texts.{is_simple_content, is_read, IsRead, IsReadIf, IsTextOutcome}
use Rattle.elem_assess.specs.Local.{IsLocal, said_on}
use Rattle.elem_assess.specs.declared.records.Judged.{Judged}
use Rattle.what_is_found.specs.Identity.{validity_again, with_more}
use Rattle.what_is_found.proofs.Counts.{IsTriedAlike}

-- ---- validity and attempt

validity-again : (front behind : List Found) (strictly a p q : Bool) → (p ≡ true → q ≡ true) → validity_of (front ++ behind) strictly (a || q) ≡ validity_again behind q (validity_of front strictly (a || p))
validity-again (x ∷ xs) [] strictly a p q stays = refl
validity-again (x ∷ xs) (y ∷ ys) strictly a p q stays = refl
validity-again [] (y ∷ ys) strictly a p q stays = refl
validity-again [] [] false a p q stays = refl
validity-again [] [] true true p q stays = refl
validity-again [] [] true false true true stays = refl
validity-again [] [] true false true false stays = absurd (true≢false (sym (stays refl)))
validity-again [] [] true false false q stays = refl

attempted-same : (strictly : Bool) (attrs : List AttrRecord) (c d : ChildCounts) → IsTriedAlike c d → attempted_of strictly attrs c ≡ attempted_of strictly attrs d
attempted-same true attrs c d e = λ i. if list_all (λ (a : AttrRecord). is_full a.attempted) attrs && ((e.partial i == 0) && (e.untried i == 0)) then Full else Partial
attempted-same false attrs c d e = λ i. if list_all (λ (a : AttrRecord). is_untried a.attempted) attrs && ((e.full i == 0) && (e.partial i == 0)) then Untried else Partial

-- ---- an element with other counts of child elements, of which there are some as before, and with other codes

module _ (shape : ElementShape) (counts : ChildCounts) (identity ids : List Found) (same : has_children counts ≡ has_children shape.counts) where
  abbrev pub other : ElementShape
  other = record shape { identity = identity; ids = ids; counts = counts }

  taken-same : (nil : Bool) (c : Option ValueConstraint) → is_taken nil c other ≡ is_taken nil c shape
  taken-same nil c = ap (λ (b : Bool). is_some c && (not nil && (not b && (length shape.text == 0)))) same

  text-same : (by : Bool) (c : Option ValueConstraint) → text_used by c other ≡ text_used by c shape
  text-same by None = refl
  text-same by (Some c) = refl

  scope-same : (by : Bool) (c : Option ValueConstraint) → scope_used by c other ≡ scope_used by c shape
  scope-same by None = refl
  scope-same by (Some c) = refl

  nil-same : (d : Option ElementDecl) (c : Option ValueConstraint) (xsi : Option (List ℕ)) (nil : Bool) → nil_codes d c xsi nil other ≡ nil_codes d c xsi nil shape
  nil-same d c xsi nil = ap (λ (b : Bool). code_if (is_nil_refused d xsi) CvcElt3_1 ++ (code_if (nil && not (not b && (length shape.text == 0))) CvcElt3_2_1 ++ code_if (is_fixed_nil nil c) CvcElt3_2_2)) same

  content-same : (names : NameTable) (is_nil : Bool) (content : ContentType) (text : List ℕ) (outcome : TextOutcome) (missing : List ℕ) →
      by_content names is_nil content other text outcome missing ≡ by_content names is_nil content shape text outcome missing
  content-same names is_nil SimpleType text outcome missing =
      ap (λ (b : Bool). code_if (has_other_attributes names shape.attrs) CvcType3_1_1 ++ (code_if (not is_nil && b) CvcType3_1_2 ++ simple_text_codes outcome)) same
  content-same names is_nil Empty text outcome missing =
      ap (λ (b : Bool). (if is_nil then [] else code_if (b || not (length text == 0)) CvcComplexType2_1 ++ stuck_codes shape.stuck) ++ missing_codes missing) same
  content-same names is_nil SimpleContent text outcome missing =
      ap (λ (b : Bool). (if is_nil then [] else (code_if b CvcComplexType2_2 ++ text_codes CvcComplexType2_2 outcome) ++ stuck_codes shape.stuck) ++ missing_codes missing) same
  content-same names is_nil ElementOnly text outcome missing = refl
  content-same names is_nil Mixed text outcome missing = refl

  governed-same : (names : NameTable) (is_nil : Bool) (content : Option ContentType) (text : List ℕ) (outcome : TextOutcome) (missing : List ℕ) →
      governed_codes names is_nil content other text outcome missing ≡ governed_codes names is_nil content shape text outcome missing
  governed-same names is_nil None text outcome missing = refl
  governed-same names is_nil (Some content) text outcome missing = content-same names is_nil content text outcome missing

  fixed-same : (nil : Bool) (content : Option ContentType) (fixed : Option ValueConstraint) (outcome : TextOutcome) → fixed_codes nil content fixed other outcome ≡ fixed_codes nil content fixed shape outcome
  fixed-same nil content fixed outcome =
      ap (λ (b : Bool). (if is_mixed content && not nil then code_if (is_some fixed && b) CvcElt5_2_2_1 ++ code_if (differs fixed shape.text) CvcElt5_2_2_2 else []) ++ code_if (is_unmet outcome) CvcElt5_2_2_2) same

  module _ (t : Tables) where
    read-same : (by : Bool) (of : TypeId) (is : Bool) (c : Option ValueConstraint) (outcome : TextOutcome) → IsReadIf by t of is c shape outcome → IsReadIf by t of is c other outcome
    read-same false of is c outcome r = r
    read-same true of is c outcome r =
        subst (λ scope. IsRead t of (fixed_value is c) scope (text_used is c other) outcome) (sym (scope-same is c))
        (subst (λ text. IsRead t of (fixed_value is c) (scope_used is c shape) text outcome) (sym (text-same is c)) r)

    pub outcome-same : (of : Option TypeId) (is : Bool) (c : Option ValueConstraint) (outcome : TextOutcome) → IsTextOutcome t of is c shape outcome → IsTextOutcome t of is c other outcome
    outcome-same None is c outcome r = r
    outcome-same (Some of) is c outcome r =
        let read : is_read (content_of t of) is other ≡ is_read (content_of t of) is shape = ap (λ (b : Bool). is_simple_content (content_of t of) && (not is && not b)) same in
        subst (λ (by : Bool). IsReadIf by t of (is_taken is c other) c other outcome) (sym read)
        (subst (λ (by : Bool). IsReadIf (is_read (content_of t of) is shape) t of by c other outcome) (sym (taken-same is c))
        (read-same (is_read (content_of t of) is shape) of (is_taken is c shape) c outcome r))

    module _ (names : NameTable) (g : Governing) (said : XsiType) (missing : List ℕ) (outcome : TextOutcome) where
      local-same :
          local_codes names t g said other missing outcome (decl names t g other) (constraint names t g other) (nil_text names t g other) (nil names t g other) (taken names t g other)
          ≡ local_codes names t g said shape missing outcome (decl names t g shape) (constraint names t g shape) (nil_text names t g shape) (nil names t g shape) (taken names t g shape)
      local-same =
          let is = nil names t g shape in
          let c = constraint names t g shape in
          let d = decl names t g shape in
          let xsi = nil_text names t g shape in
          let content = governing_content t g.of in
          let by : taken names t g other ≡ taken names t g shape = taken-same is c in
          let nils = nil-same d c xsi is in
          let texts : text_used (taken names t g other) c other ≡ text_used (taken names t g shape) c shape = ap (λ (b : Bool). text_used b c other) by ∙ text-same (taken names t g shape) c in
          let governed = governed-same names is content (text_used (taken names t g other) c other) outcome missing ∙ ap (λ text. governed_codes names is content shape text outcome missing) texts in
          let fixeds = fixed-same is content (fixed_value (taken names t g other) c) outcome ∙ ap (λ (b : Bool). fixed_codes is content (fixed_value b c) shape outcome) by in
          λ i. declaration_codes g said d ++ (type_codes t g said ++ (nils i ++ (governed i ++ fixeds i)))

      -- the record of an element without codes of identity constraints and IDs, with these
      pub record-again : (attrs : List AttrRecord) → shape.identity ≡ [] → shape.ids ≡ [] → IsTriedAlike counts shape.counts → (not (shape.counts.invalid == 0) ≡ true → not (counts.invalid == 0) ≡ true) →
          element_record names t g other said missing outcome attrs ≡ with_more (identity ++ ids) (not (counts.invalid == 0)) (element_record names t g shape said missing outcome attrs)
      record-again attrs no_identity no_ids tried stays =
          let strictly = is_strictly_assessed g said in
          let is = nil names t g shape in
          let c = constraint names t g shape in
          let a = list_any (λ (x : AttrRecord). is_invalid x.validity) attrs in
          let plain = all_codes names t g shape said missing outcome in
          let own = local_codes names t g said shape missing outcome (decl names t g shape) c (nil_text names t g shape) is (taken names t g shape) in
          let none : shape.identity ++ shape.ids ≡ [] = (λ i. no_identity i ++ no_ids i) in
          let bare : plain ≡ own = ap (λ behind. own ++ behind) none ∙ append-nil own in
          let all : all_codes names t g other said missing outcome ≡ plain ++ (identity ++ ids) = ap (λ front. front ++ (identity ++ ids)) (local-same ∙ sym bare) in
          let validity : validity_of (all_codes names t g other said missing outcome) strictly (a || not (counts.invalid == 0)) ≡ validity_again (identity ++ ids) (not (counts.invalid == 0)) (validity_of plain strictly (a || not (shape.counts.invalid == 0)))
          = ap (λ codes. validity_of codes strictly (a || not (counts.invalid == 0))) all ∙ validity-again plain (identity ++ ids) strictly a (not (shape.counts.invalid == 0)) (not (counts.invalid == 0)) stays in
          let attempted = attempted-same strictly attrs counts shape.counts tried in
          let source = ap source_of (taken-same is c) in
          λ i. record { name = shape.name; of = g.of; validity = validity i; attempted = attempted i; source = source i; codes = all i }

  -- what is found out about an element
  module _ (names : NameTable) (t : Tables) (g : Governing) where
    abbrev pub record_of_other : (judged : Judged) → IsLocal names t g shape judged → ElementRecord
    record_of_other judged k = element_record names t g other (said_on names t g shape) k.attributes.missing k.known.outcome k.attributes.records

    abbrev pub local-again : (judged : Judged) (k : IsLocal names t g shape judged) → IsLocal names t g other (record judged { element = record_of_other judged k })
    local-again judged k =
        let w = k.known in record {
          attributes = k.attributes;
          assessed = k.assessed;
          known = record {
            outcome = w.outcome;
            text = outcome-same t g.of (nil names t g shape) (constraint names t g shape) w.outcome w.text;
            record_is = refl;
            value_is = w.value_is;
          };
          attrs_are = k.attrs_are;
          attr_values_are = k.attr_values_are;
        }
