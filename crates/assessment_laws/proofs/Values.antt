-- Values go by what an element shows for them.
use Rattle.std.proofs.Common.{◌≡◌, ℕ, Bool, not, ◌&&◌, ◌==◌, List, Option, None, Some, true, false, if◌then◌else◌, length, is_some, refl, ap, subst}
use Rattle.xs_names.specs.Names.{NameTable, IsSound}
use Rattle.xs_components.specs.Tables.{Tables}
use Rattle.xs_components.specs.declared.common.TypeId.{TypeId}
use Rattle.xs_components.specs.declared.common.ValueConstraint.{ValueConstraint}
use Rattle.component_tables.specs.ContentTypes.{content_of}
use Rattle.simple_types.proofs.Valid.{one-outcome}
use Rattle.assess_records.specs.Instance.{instance_text}
use Rattle.assess_records.specs.declared.instance_names.InstanceAttribute.TheVariants.{Nil}
use Rattle.assess_records.specs.declared.shape.ElementShape.{ElementShape}
use Rattle.assess_records.specs.declared.shape.NamedText.{NamedText}
use Rattle.attr_assess.specs.Added.{AreNamed}
use Rattle.attr_assess.specs.Assessed.{AreAttrsAssessed}
use Rattle.elem_governing.specs.declared.pairs.Governing.{Governing}
use Rattle.elem_codes.specs.Facts.{declaration_of, constraint_of, is_nil, has_elements}
use Rattle.elem_codes.specs.Records.{element_record}
use Rattle.elem_codes.specs.declared.outcome.TextOutcome.{TextOutcome}
use Rattle.elem_assess.specs.Texts.{is_simple_content, IsRead, IsReadIf, IsTextOutcome}
use Rattle.elem_codes.specs.Used.{fixed_value}
use Rattle.elem_assess.specs.Local.{IsLocal, said_on}
use Rattle.elem_assess.specs.declared.records.Judged.{Judged}
use Rattle.assessment_laws.proofs.Judged.{local-is}
use Rattle.assessment_laws.specs.Shown.{ShowSameText}

module _ (a b : ElementShape) (same : ShowSameText a b) where
  read-same : (by : Bool) (t : Tables) (of : TypeId) (takes : Bool) (c : Option ValueConstraint) (outcome : TextOutcome) → IsReadIf by t of takes c a outcome → IsReadIf by t of takes c b outcome
  read-same false t of takes c outcome h = h
  read-same true t of takes None outcome h =
      subst (λ (chars : List ℕ). IsRead t of None b.scope chars outcome) same.text (subst (λ (scope : List (List ℕ × ℕ)). IsRead t of None scope a.text outcome) same.scope h)
  read-same true t of takes (Some c) outcome h =
      subst (λ (chars : List ℕ). IsRead t of (fixed_value takes (Some c)) (if takes then c.scope else b.scope) (if takes then c.text else chars) outcome) same.text
      (subst (λ (scope : List (List ℕ × ℕ)). IsRead t of (fixed_value takes (Some c)) (if takes then c.scope else scope) (if takes then c.text else a.text) outcome) same.scope h)

  text-same : (t : Tables) (of : Option TypeId) (nil : Bool) (c : Option ValueConstraint) (outcome : TextOutcome) → IsTextOutcome t of nil c a outcome → IsTextOutcome t of nil c b outcome
  text-same t None nil c outcome h = h
  text-same t (Some of) nil c outcome h =
      let has = same.elements in
      let chars = same.text in
      read-same (is_simple_content (content_of t of) && (not nil && not (has_elements b))) t of (is_some c && (not nil && (not (has_elements b) && (length b.text == 0)))) c outcome
      (subst (λ (n : ℕ). IsReadIf (is_simple_content (content_of t of) && (not nil && not (has_elements b))) t of (is_some c && (not nil && (not (has_elements b) && (n == 0)))) c a outcome) (ap length chars)
      (subst (λ (h : Bool). IsReadIf (is_simple_content (content_of t of) && (not nil && not h)) t of (is_some c && (not nil && (not h && (length a.text == 0)))) c a outcome) has h))

  module _ (names : NameTable) (t : Tables) (g : Governing) (sound : IsSound names) (named : AreNamed names t) where
    pub values-same : (x y : Judged) → IsLocal names t g a x → IsLocal names t g b y → (x.value ≡ y.value) × (x.attrs ≡ y.attrs) × (x.attr_values ≡ y.attr_values)
    values-same x y h k =
        let known = h.known in
        let decl = declaration_of t g in
        let judged : Judged = record {
          element = element_record names t g b (said_on names t g b) h.attributes.missing known.outcome h.attributes.records;
          value = x.value;
          attrs = x.attrs;
          attr_values = x.attr_values;
        } in
        let local : IsLocal names t g b judged = record {
          attributes = h.attributes;
          assessed = subst (λ (attrs : List NamedText). AreAttrsAssessed names t g.of b.scope attrs h.attributes) same.attrs
              (subst (λ (scope : List (List ℕ × ℕ)). AreAttrsAssessed names t g.of scope a.attrs h.attributes) same.scope h.assessed);
          known = record {
            outcome = known.outcome;
            text = text-same t g.of (is_nil decl (instance_text names b.attrs Nil)) (constraint_of decl) known.outcome
                (subst (λ (attrs : List NamedText). IsTextOutcome t g.of (is_nil decl (instance_text names attrs Nil)) (constraint_of decl) a known.outcome) same.attrs known.text);
            record_is = refl;
            value_is = known.value_is;
          };
          attrs_are = h.attrs_are;
          attr_values_are = h.attr_values_are;
        } in
        let one = local-is names t (one-outcome t) g b sound named judged y local k in
        (ap (λ (j : Judged). j.value) one, ap (λ (j : Judged). j.attrs) one, ap (λ (j : Judged). j.attr_values) one)
