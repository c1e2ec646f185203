-- The record of an element, where the table of names has grown.
use Rattle.std.proofs.Common.{◌≡◌, ℕ, ◌<◌, Bool, List, [], ◌∷◌, ◌++◌, ◌||◌, Option, None, Some, is_none, length, refl, sym, ap, ◌∙◌, subst}
use Rattle.std.specs.Prelude.{All}
use Rattle.std.proofs.lemmas.List.Elements.{All-head, All-tail}
use Rattle.xs_names.specs.Names.{NameTable, Grown, IsSound}
use Rattle.xs_codes.specs.declared.code.Code.TheVariants.{CvcType3_1_1, CvcType3_1_2}
use Rattle.xs_codes.specs.declared.fault.Found.{Found}
use Rattle.xs_components.specs.Tables.{Tables}
use Rattle.component_tables.specs.declared.content_types.ContentType.{ContentType}
use Rattle.component_tables.specs.declared.content_types.ContentType.TheVariants.{SimpleType, Empty, SimpleContent, ElementOnly, Mixed}
use Rattle.assess_records.specs.Instance.{instance_text}
use Rattle.assess_records.specs.declared.instance_names.InstanceAttribute.TheVariants.{TypeName, Nil}
use Rattle.assess_records.specs.declared.record.AttrRecord.{AttrRecord}
use Rattle.assess_records.specs.declared.record.ElementRecord.{ElementRecord}
use Rattle.assess_records.specs.declared.shape.ElementShape.{ElementShape}
use Rattle.assess_records.specs.declared.shape.NamedText.{NamedText}
use Rattle.elem_governing.specs.LocalType.{xsi_type}
use Rattle.elem_governing.specs.declared.pairs.Governing.{Governing}
use Rattle.elem_governing.specs.declared.local_types.XsiType.{XsiType}
use Rattle.elem_codes.specs.Codes.{code_if, has_other_attributes, has_elements_inside, simple_text_codes, declaration_codes, type_codes, nil_codes, governed_codes, fixed_codes, local_codes}
use Rattle.elem_codes.specs.Facts.{declaration_of, constraint_of, governing_content, is_nil, is_taken}
use Rattle.elem_codes.specs.Records.{record_with, element_record}
use Rattle.elem_codes.specs.Used.{text_used, fixed_value}
use Rattle.elem_codes.specs.declared.outcome.TextOutcome.{TextOutcome}
use Rattle.elem_assess.specs.Local.{IsLocal, said_on}
use Rattle.elem_assess.specs.Texts.{IsTextOutcome}
use Rattle.elem_assess.specs.declared.records.Judged.{Judged}
use Rattle.assessment_laws.specs.GrownThere.{ArePartsNamed, IsShapeNamed}
use Rattle.assessment_laws.proofs.Spaces.{instance-kept, instance-text-kept}
use Rattle.assessment_laws.proofs.Types.{said-kept}
use Rattle.assessment_laws.proofs.GrownAttrs.{assessed-kept}

module _ (old new : NameTable) (g : Grown old new) (sound : IsSound old) where
  others-kept : (attrs : List NamedText) → All (λ (a : NamedText). a.name < length old.names) attrs → has_other_attributes new attrs ≡ has_other_attributes old attrs
  others-kept [] all = refl
  others-kept (a ∷ attrs) all =
      let own = instance-kept old new g sound a.name (All-head (λ (b : NamedText). b.name < length old.names) a attrs all) in
      let rest = others-kept attrs (All-tail (λ (b : NamedText). b.name < length old.names) a attrs all) in
      λ i. is_none (own i) || rest i

  module _ (t : Tables) (pair : Governing) (shape : ElementShape) (within : IsShapeNamed old shape) where
    codes-kept : (nil : Bool) (content : Option ContentType) (text : List ℕ) (outcome : TextOutcome) (missing : List ℕ) →
        governed_codes new nil content shape text outcome missing ≡ governed_codes old nil content shape text outcome missing
    codes-kept nil None text outcome missing = refl
    codes-kept nil (Some SimpleType) text outcome missing =
        ap (λ (b : Bool). code_if b CvcType3_1_1 ++ (code_if (has_elements_inside nil shape) CvcType3_1_2 ++ simple_text_codes outcome)) (others-kept shape.attrs within.attrs)
    codes-kept nil (Some Empty) text outcome missing = refl
    codes-kept nil (Some SimpleContent) text outcome missing = refl
    codes-kept nil (Some ElementOnly) text outcome missing = refl
    codes-kept nil (Some Mixed) text outcome missing = refl

    module _ (said : XsiType) (missing : List ℕ) (outcome : TextOutcome) (attrs : List AttrRecord) where
      -- the record, by the text of xsi:nil
      abbrev by-text : NameTable → Option (List ℕ) → ElementRecord
      by-text names xsi =
          record_with pair said shape attrs (is_taken (is_nil (declaration_of t pair) xsi) (constraint_of (declaration_of t pair)) shape)
          (local_codes names t pair said shape missing outcome (declaration_of t pair) (constraint_of (declaration_of t pair)) xsi (is_nil (declaration_of t pair) xsi)
          (is_taken (is_nil (declaration_of t pair) xsi) (constraint_of (declaration_of t pair)) shape) ++ (shape.identity ++ shape.ids))

      by-text-kept : (xsi : Option (List ℕ)) → by-text new xsi ≡ by-text old xsi
      by-text-kept xsi =
          let decl = declaration_of t pair in
          let value = constraint_of decl in
          let nil = is_nil decl xsi in
          let takes = is_taken nil value shape in
          let content = governing_content t pair.of in
          ap (λ (codes : List Found). record_with pair said shape attrs takes
          ((declaration_codes pair said decl ++ (type_codes t pair said ++ (nil_codes decl value xsi nil shape ++ (codes ++ fixed_codes nil content (fixed_value takes value) shape outcome)))) ++
          (shape.identity ++ shape.ids)))
          (codes-kept nil content (text_used takes value shape) outcome missing)

      record-kept : element_record new t pair shape said missing outcome attrs ≡ element_record old t pair shape said missing outcome attrs
      record-kept =
          ap (by-text new) (instance-text-kept old new g sound Nil shape.attrs within.attrs) ∙ by-text-kept (instance_text old shape.attrs Nil)

    saying-kept : ArePartsNamed old t → said_on new t pair shape ≡ said_on old t pair shape
    saying-kept named =
        ap (λ (xsi : Option (List ℕ)). xsi_type new t pair.declaration xsi shape.scope) (instance-text-kept old new g sound TypeName shape.attrs within.attrs)
        ∙ said-kept old new g t named sound shape.scope within.scope pair.declaration (instance_text old shape.attrs TypeName)

    pub local-kept : ArePartsNamed old t → (judged : Judged) → IsLocal old t pair shape judged → IsLocal new t pair shape judged
    local-kept named judged h =
        let known = h.known in
        let saying = saying-kept named in record {
          attributes = h.attributes;
          assessed = assessed-kept old new g sound t named.attributes pair.of shape.scope shape.attrs h.attributes within.attrs h.assessed;
          known = record {
            outcome = known.outcome;
            text = subst (λ (xsi : Option (List ℕ)). IsTextOutcome t pair.of (is_nil (declaration_of t pair) xsi) (constraint_of (declaration_of t pair)) shape known.outcome)
                (sym (instance-text-kept old new g sound Nil shape.attrs within.attrs)) known.text;
            record_is = known.record_is
                ∙ (sym (record-kept (said_on old t pair shape) h.attributes.missing known.outcome h.attributes.records)
                ∙ ap (λ (said : XsiType). element_record new t pair shape said h.attributes.missing known.outcome h.attributes.records) (sym saying));
            value_is = known.value_is;
          };
          attrs_are = h.attrs_are;
          attr_values_are = h.attr_values_are;
        }
