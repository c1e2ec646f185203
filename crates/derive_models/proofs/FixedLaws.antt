-- The fixed value of a declaration is one.
use Rattle.std.proofs.Common.{◌≡◌, ℕ, inl, inr, true, Option, Some, Result, Ok, Err, slice_get, refl, sym, ap, ◌∙◌, subst}
use Rattle.std.proofs.lemmas.Option.{same_Some}
use Rattle.xs_codes.specs.declared.code.Code.{Code}
use Rattle.xs_components.specs.Tables.{Tables}
use Rattle.xs_components.specs.declared.common.TypeId.{TypeId}
use Rattle.xs_components.specs.declared.common.ValueConstraint.{ValueConstraint}
use Rattle.xs_components.specs.declared.element.ElementDecl.{ElementDecl}
use Rattle.component_references.specs.Heights.{IsType}
use Rattle.component_tables.specs.ContentTypes.{content_of}
use Rattle.component_tables.specs.declared.content_types.ContentType.{ContentType}
use Rattle.component_tables.specs.declared.content_types.ContentType.TheVariants.{SimpleType, Empty, SimpleContent, ElementOnly, Mixed}
use Rattle.component_tables.specs.Types.{type_of}
use Rattle.simple_values.specs.declared.key.Key.{Key}
use Rattle.simple_values.specs.declared.value.Value.{Value}
use Rattle.simple_types.specs.Trees.{type_tree}
use Rattle.simple_types.specs.SimpleTypes.{IsValueOf, IsWhole}
use Rattle.simple_types.specs.declared.types.SimpleTypes.{SimpleTypes}
use Rattle.simple_types.proofs.Valid.{one-outcome}
use Rattle.element_declarations.specs.Values.{text_type, outcome_key, IsTextKey}
use Rattle.derive_models.specs.Fixed.{HasFixed}
use Rattle.derive_models.specs.inside.Numbered.{AreRead, IsFixedKey}

same-ok : (x y : Value) (r : Result Value Code) → r ≡ Ok x → r ≡ Ok y → x ≡ y
same-ok x y r e f = cc

not-refused : (value : Value) (code : Code) (r : Result Value Code) → r ≡ Ok value → r ≡ Err code → ⊥
not-refused value code r e f = cc

-- the literals of the type by which a text is read are known
pub text-whole : (t : Tables) (types : SimpleTypes) → AreRead t types → (of : TypeId) → IsType t of → (content : ContentType) → content_of t of ≡ content → IsWhole types (text_type of content)
text-whole t types read of there SimpleType e = read.whole of there (inl e)
text-whole t types read of there SimpleContent e = read.whole of there (inr e)
text-whole t types read of there Empty e = refl
text-whole t types read of there ElementOnly e = refl
text-whole t types read of there Mixed e = refl

module _ (t : Tables) (element : ℕ) where
  abbrev read_by : TypeId
  read_by = text_type (type_of t element) (content_of t (type_of t element))

  abbrev Comes : ValueConstraint → Result Value Code → Type 0
  Comes constraint outcome = IsValueOf (type_tree t read_by) constraint.scope constraint.text outcome

  -- of the constraint of a declaration that was looked up
  module _ (part : ElementDecl) (is : slice_get t.elements.parts element ≡ Some part) (constraint : ValueConstraint) (has : part.value ≡ Some constraint) where
    comes-too : (value : Value) → HasFixed t element value → Comes constraint (Ok value)
    comes-too value h =
        let one : h.part ≡ part = same_Some h.part part (sym h.is ∙ is) in
        let same : h.constraint ≡ constraint = same_Some h.constraint constraint (sym h.has ∙ (ap (λ (p : ElementDecl). p.value) one ∙ has)) in
        subst (λ (c : ValueConstraint). Comes c (Ok value)) same h.read

    module _ (fixed : constraint.fixed ≡ true) where
      by-outcome : (outcome : Result Value Code) → Comes constraint outcome → IsFixedKey t element (outcome_key outcome)
      by-outcome (Ok value) read = (value, record { part = part; constraint = constraint; is = is; has = has; fixed = fixed; read = read }, refl)
      by-outcome (Err code) read = λ value h. not-refused value code (Ok value) refl (one-outcome t read_by constraint.scope constraint.text (Ok value) (Err code) (comes-too value h) read)

      -- the key of its text is that of the fixed value
      pub fixed-key : (key : Option Key) → IsTextKey t read_by constraint key → IsFixedKey t element key
      fixed-key key x = subst (IsFixedKey t element) (sym x.2) (by-outcome x.0 x.1)

  pub one-value : (x y : Value) → HasFixed t element x → HasFixed t element y → x ≡ y
  one-value x y h g =
      same-ok x y (Ok x) refl (one-outcome t read_by g.constraint.scope g.constraint.text (Ok x) (Ok y) (comes-too g.part g.is g.constraint g.has x h) g.read)
