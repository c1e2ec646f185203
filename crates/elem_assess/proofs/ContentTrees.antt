-- What simple content is made of is simple.
use Rattle.std.proofs.Common.{◌≡◌, ℕ, zero, suc, ◌+◌, ◌<◌, Bool, true, false, length, Option, None, Some, slice_get, slice_index, refl, sym, ap, subst, ◌∙◌, arith}
use Rattle.std.proofs.lemmas.Bool.{false≢true}
use Rattle.xs_codes.specs.declared.code.Code.TheVariants.{SrcCt2}
use Rattle.xs_codes.specs.declared.fault.Fault.{Fault}
use Rattle.xs_components.specs.Tables.{Tables}
use Rattle.xs_components.specs.declared.common.TypeId.{TypeId}
use Rattle.xs_components.specs.declared.common.TypeId.TheVariants as types
use Rattle.xs_components.specs.declared.complex.ComplexType.{ComplexType}
use Rattle.xs_components.specs.declared.complex.ContentForm.{ContentForm}
use Rattle.xs_components.specs.declared.complex.ContentForm.TheVariants as forms
use Rattle.component_references.specs.Heights.{first_height, IsType, IsLower}
use Rattle.component_references.specs.Ranked.{IsRanked}
use Rattle.type_derivation.specs.Within.{AreSimple}
use Rattle.type_derivation.specs.Bases.{IsWrongBase, base_code, base_fault}
use Rattle.type_derivation.specs.Contents.{HasContent}
use Rattle.type_derivation.proofs.ContentTypeLaws.{has-content}
use Rattle.simple_types.specs.Trees.{simple_tree, content_form, content_part, type_tree}
use Rattle.simple_types.proofs.TreeLaws.{type_tree_is}
use Rattle.simple_types.specs.SimpleTypes.{AreWhole, IsWhole, IsSimpleTree}
use Rattle.simple_types.specs.declared.types.SimpleTypes.{SimpleTypes}
use Rattle.component_tables.specs.ContentTypes.{form_content, part_content, complex_content, content_of}
use Rattle.component_tables.specs.declared.content_types.ContentType.{ContentType}
use Rattle.component_tables.specs.declared.content_types.ContentType.TheVariants.{SimpleType, Empty, SimpleContent, ElementOnly, Mixed}
use Rattle.component_tables.proofs.ContentLaws.{complex_content_is}
use Rattle.elem_assess.specs.Texts.{is_simple_content}
use Rattle.elem_assess.specs.Own.{AreOwnSimple}
use Rattle.elem_assess.proofs.SimpleTrees.{there-none, type-simple}

module _ (t : Tables) where
  module _ (ranked : IsRanked t) (simple : AreSimple t) (owns : AreOwnSimple t) (right : (fault : Fault) → IsWrongBase t fault → ⊥) where
    -- a base of the wrong kind
    wrong : (n : ℕ) (part : ComplexType) → slice_get t.complexes.parts n ≡ Some part → (by_extension : Bool) → part.by_extension ≡ by_extension → (form : ContentForm) → part.content ≡ form →
        (kind : ContentType) → HasContent t part.base kind → base_code by_extension form kind ≡ Some SrcCt2 → ⊥
    wrong n part at b e form f kind has code =
        right (base_fault part.at SrcCt2) (n, part, kind, SrcCt2, at, has, ap (λ x. base_code x part.content kind) e ∙ (ap (λ x. base_code b x kind) f ∙ code), refl)

    form-simple : (n : ℕ) (part : ComplexType) → slice_get t.complexes.parts n ≡ Some part → (by_extension : Bool) → part.by_extension ≡ by_extension → (form : ContentForm) → part.content ≡ form →
        (base : ContentType) → HasContent t part.base base → (is_simple_content base ≡ true → IsSimpleTree (type_tree t part.base)) →
        is_simple_content (form_content by_extension form base) ≡ true → IsSimpleTree (content_form (simple_tree t) (type_tree t) by_extension part.base form)
    form-simple n part at true e (forms.Simple inner step) f SimpleType has rec is = rec refl
    form-simple n part at true e (forms.Simple inner step) f SimpleContent has rec is = rec refl
    form-simple n part at true e (forms.Simple inner step) f Empty has rec is = absurd (wrong n part at true e (forms.Simple inner step) f Empty has refl)
    form-simple n part at true e (forms.Simple inner step) f ElementOnly has rec is = absurd (wrong n part at true e (forms.Simple inner step) f ElementOnly has refl)
    form-simple n part at true e (forms.Simple inner step) f Mixed has rec is = absurd (wrong n part at true e (forms.Simple inner step) f Mixed has refl)
    form-simple n part at false e (forms.Simple None step) f SimpleContent has rec is = rec refl
    form-simple n part at false e (forms.Simple None step) f SimpleType has rec is = absurd (wrong n part at false e (forms.Simple None step) f SimpleType has refl)
    form-simple n part at false e (forms.Simple None step) f Empty has rec is = absurd (wrong n part at false e (forms.Simple None step) f Empty has refl)
    form-simple n part at false e (forms.Simple None step) f ElementOnly has rec is = absurd (wrong n part at false e (forms.Simple None step) f ElementOnly has refl)
    form-simple n part at false e (forms.Simple None step) f Mixed has rec is = absurd (wrong n part at false e (forms.Simple None step) f Mixed has refl)
    form-simple n part at false e (forms.Simple (Some inner) step) f base has rec is =
        let it = owns n part inner step at f in type-simple t ranked simple inner it.there it.simple
    form-simple n part at b e (forms.Complex (Some p) true) f base has rec is = absurd (false≢true is)
    form-simple n part at b e (forms.Complex (Some p) false) f base has rec is = absurd (false≢true is)
    form-simple n part at false e (forms.Complex None mixed) f base has rec is = absurd (false≢true is)
    form-simple n part at true e (forms.Complex None mixed) f SimpleType has rec is = rec refl
    form-simple n part at true e (forms.Complex None mixed) f SimpleContent has rec is = rec refl
    form-simple n part at true e (forms.Complex None mixed) f Empty has rec is = absurd (false≢true is)
    form-simple n part at true e (forms.Complex None mixed) f ElementOnly has rec is = absurd (false≢true is)
    form-simple n part at true e (forms.Complex None mixed) f Mixed has rec is = absurd (false≢true is)

    plain-simple : (of : TypeId) → type_tree t of ≡ simple_tree t of → IsSimpleTree (simple_tree t of) → IsSimpleTree (type_tree t of)
    plain-simple of e h = subst IsSimpleTree (sym e) h

    lower-read : (bound : ℕ) → ((n : ℕ) → slice_index t.complexes.ranks n < bound → n < length t.complexes.parts → is_simple_content (complex_content t n) ≡ true → IsSimpleTree (type_tree t (types.Complex n))) →
        (of : TypeId) → IsLower t (first_height + bound) of → is_simple_content (content_of t of) ≡ true → IsSimpleTree (type_tree t of)
    lower-read bound rec types.AnyType low is = absurd (false≢true is)
    lower-read bound rec (types.Builtin kind) low is = plain-simple (types.Builtin kind) (type_tree_is t ranked (types.Builtin kind)) (type-simple t ranked simple (types.Builtin kind) tt refl)
    lower-read bound rec (types.Simple id) low is = plain-simple (types.Simple id) (type_tree_is t ranked (types.Simple id)) (type-simple t ranked simple (types.Simple id) low.there refl)
    lower-read bound rec (types.Complex id) low is = rec id (let l = low.lower in omega arith) low.there is

    entry-read : (bound n : ℕ) → slice_index t.complexes.ranks n < bound → n < length t.complexes.parts → is_simple_content (complex_content t n) ≡ true → IsSimpleTree (type_tree t (types.Complex n))
    entry-read zero n low there is = absurd (omega arith)
    entry-read (suc bound) n low there is =
        of (slice_get t.complexes.parts n) refl
        (λ of lower. lower-read bound (λ m lower there. entry-read bound m lower there) of lower)
      where
        of : (o : Option ComplexType) → slice_get t.complexes.parts n ≡ o →
            ((of : TypeId) → IsLower t (first_height + bound) of → is_simple_content (content_of t of) ≡ true → IsSimpleTree (type_tree t of)) → IsSimpleTree (type_tree t (types.Complex n))
        of None e rec = absurd (there-none t.complexes.parts n there e)
        of (Some part) e rec =
            let l = ranked.complexes n part e in
            let base : IsLower t (first_height + bound) part.base = record { there = l.there; lower = (let m = l.lower in omega arith) } in
            subst IsSimpleTree (sym (type_tree_is t ranked (types.Complex n) ∙ ap (content_part (simple_tree t) (type_tree t)) e))
            (form-simple n part e part.by_extension refl part.content refl (content_of t part.base) (has-content t ranked part.base l.there) (rec part.base base)
            (subst (λ (content : ContentType). is_simple_content content ≡ true) (complex_content_is t ranked n ∙ ap (part_content (complex_content t)) e) is))

    type-read : (of : TypeId) → IsType t of → is_simple_content (content_of t of) ≡ true → IsSimpleTree (type_tree t of)
    type-read types.AnyType there is = absurd (false≢true is)
    type-read (types.Builtin kind) there is = plain-simple (types.Builtin kind) (type_tree_is t ranked (types.Builtin kind)) (type-simple t ranked simple (types.Builtin kind) tt refl)
    type-read (types.Simple id) there is = plain-simple (types.Simple id) (type_tree_is t ranked (types.Simple id)) (type-simple t ranked simple (types.Simple id) there refl)
    type-read (types.Complex id) there is = entry-read (suc (slice_index t.complexes.ranks id)) id (omega arith) there is

pub all_read : (t : Tables) (types_of : SimpleTypes) → IsRanked t → AreSimple t → AreOwnSimple t → ((fault : Fault) → IsWrongBase t fault → ⊥) → AreWhole t types_of
    → (of : TypeId) → IsType t of → is_simple_content (content_of t of) ≡ true → IsWhole types_of of
all_read t types_of ranked simple owns right whole of there is = whole of (type-read t ranked simple owns right of there is)
