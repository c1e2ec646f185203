-- Codes of IDs stand behind the others of an element, and nothing else of what is found out about it goes by them.
use Rattle.std.proofs.Common.{◌≡◌, List, [], refl, sym, ap, ◌∙◌}
use Rattle.xs_names.specs.Names.{NameTable}
use Rattle.xs_codes.specs.declared.fault.Found.{Found}
use Rattle.xs_components.specs.Tables.{Tables}
use Rattle.assess_records.specs.declared.record.ElementRecord.{ElementRecord}
use Rattle.assess_records.specs.declared.shape.ElementShape.{ElementShape}
use Rattle.elem_governing.specs.declared.pairs.Governing.{Governing}
use Rattle.elem_codes.specs.Records.{nil, constraint, element_record}
use Rattle.elem_assess.specs.Local.{IsLocal, said_on}
use Rattle.elem_assess.specs.Marked.{with_ids, marked_record, marked_judged}
use Rattle.elem_assess.specs.declared.records.Judged.{Judged}
use Rattle.elem_assess.proofs.Shapes.{outcome-from, outcome-to, record-marked}

module _ (names : NameTable) (t : Tables) (g : Governing) (shape : ElementShape) (codes : List Found) (none : shape.ids ≡ []) where
  pub behind : (judged : Judged) → IsLocal names t g shape judged → IsLocal names t g (with_ids codes shape) (marked_judged codes judged)
  behind judged k =
      let said = said_on names t g shape in
      let w = k.known in record {
        attributes = k.attributes;
        assessed = k.assessed;
        known = record {
          outcome = w.outcome;
          text = outcome-from shape codes t g.of (nil names t g shape) (constraint names t g shape) w.outcome w.text;
          record_is = ap (marked_record codes) w.record_is ∙ sym (record-marked shape codes t names g said k.attributes.missing w.outcome k.attributes.records none);
          value_is = w.value_is;
        };
        attrs_are = k.attrs_are;
        attr_values_are = k.attr_values_are;
      }

  pub taken-off : (judged : Judged) → IsLocal names t g (with_ids codes shape) judged → (e : ElementRecord) × IsLocal names t g shape (record judged { element = e }) × (judged.element ≡ marked_record codes e)
  taken-off judged k =
      let said = said_on names t g shape in
      let w = k.known in
      let e = element_record names t g shape said k.attributes.missing w.outcome k.attributes.records in (
        e,
        record {
          attributes = k.attributes;
          assessed = k.assessed;
          known = record {
            outcome = w.outcome;
            text = outcome-to shape codes t g.of (nil names t g shape) (constraint names t g shape) w.outcome w.text;
            record_is = refl;
            value_is = w.value_is;
          };
          attrs_are = k.attrs_are;
          attr_values_are = k.attr_values_are;
        },
        w.record_is ∙ record-marked shape codes t names g said k.attributes.missing w.outcome k.attributes.records none,
      )
