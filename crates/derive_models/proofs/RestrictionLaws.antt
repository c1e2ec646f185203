-- The code of a content model against that of a base.
use Rattle.std.proofs.Common.{◌≡◌, ℕ, ◌<◌, length, Bool, true, false, List, Option, None, Some, refl, sym, subst, ◌∙◌}
use Rattle.std.specs.Prelude.{◌&&◌, not, Result, Ok, Err, IfOk, IfErr, All as Each}
use Rattle.std.proofs.lemmas.Bool.{false≢true}
use Rattle.std.proofs.lemmas.Option.{none-some, same_Some}
use Rattle.std.proofs.lemmas.List.Elements.{All-weaker}
use Rattle.xs_codes.specs.declared.code.Code.{Code}
use Rattle.xs_codes.specs.declared.code.Code.TheVariants.{CosParticleRestrict2}
use Rattle.xs_components.specs.Tables.{Tables}
use Rattle.xs_components.specs.declared.common.TypeId.{TypeId}
use Rattle.xs_components.specs.declared.common.TypeId.TheVariants.{Complex}
use Rattle.xs_components.specs.declared.complex.ComplexType.{ComplexType}
use Rattle.component_tables.specs.ContentTypes.{content_of}
use Rattle.component_tables.specs.declared.content_types.ContentType.{ContentType}
use Rattle.component_tables.specs.declared.content_types.ContentType.TheVariants.{SimpleType, Empty, SimpleContent, ElementOnly, Mixed}
use Rattle.particle_models.specs.Trees.{Tree}
use Rattle.particle_restrict.specs.Codes.{code_of, form_case, IsFault}
use Rattle.particle_restrict.specs.Restricts.{FormRestricts}
use Rattle.particle_restrict.specs.declared.restriction.RestrictFault.{RestrictFault}
use Rattle.particle_restrict.specs.declared.restriction.RestrictFault.TheVariants.{Broken, Memory}
use Rattle.particle_restrict.specs.declared.terms.Term.{Term}
use Rattle.particle_restrict.specs.declared.terms.Term.TheVariants.{Element, Any}
use Rattle.particle_restrict.specs.Tables.{HasType}
use Rattle.component_tables.specs.Types.{type_of}
use Rattle.derive_models.specs.AnyType.{is_any_type}
use Rattle.derive_models.specs.Forms.{content_form}
use Rattle.derive_models.specs.Terms.{IsElementType}
use Rattle.derive_faults.specs.TypeFaults.{IsFirstCode, stands_before}
use Rattle.derive_faults.proofs.FaultLaws.{not-itself, given-first}
use Rattle.derive_models.specs.ModelRestrictions.{has_model, IsModelRestriction, BreaksForms, BreaksContent, BreaksModel, Breaks}
use Rattle.derive_models.specs.Compared.{told_code, is_simple, is_model_restriction}

pub if-ok : {A E : Type 0} (r : Result A E) (P Q : A → Type 0) → ((x : A) → P x → Q x) → IfOk r P → IfOk r Q
if-ok (Ok x) P Q f h = f x h
if-ok (Err e) P Q f h = tt

-- ---- forms
pub told-first : {D E : Type 0} (P : Type 0) (expected : Code) (answer : Result D RestrictFault) (r : Result (Option Code) E) → IfOk answer (λ d. P) → IfErr answer (IsFault P expected) →
    IfOk r (λ code. told_code answer ≡ Some code) → IfOk r (IsFirstCode (λ c. (P → ⊥) × (c ≡ expected)))
told-first P expected (Ok d) (Ok code) ok err told = subst (IsFirstCode (λ c. (P → ⊥) × (c ≡ expected))) (same_Some None code told) (λ c x. x.0 ok)
told-first P expected (Err (Broken found)) (Ok code) ok err told =
    subst (IsFirstCode (λ c. (P → ⊥) × (c ≡ expected))) (same_Some (Some found) code told)
    ((err.0, err.1), λ other x. subst (λ c. stands_before c found ≡ false) (err.1 ∙ sym x.1) (not-itself found))
told-first P expected (Err Memory) (Ok code) ok err told = absurd (none-some code told)
told-first P expected answer (Err e) ok err told = tt

-- the same of forms that are these
pub forms-first : {D E : Type 0} (terms : List Term) (derives : TypeId → TypeId → Bool) (own base own' base' : Option Tree) → own ≡ own' → base ≡ base' → (answer : Result D RestrictFault) (r : Result (Option Code) E) →
    IfOk answer (λ d. FormRestricts terms derives own base) → IfErr answer (IsFault (FormRestricts terms derives own base) (code_of (form_case terms own base))) →
    IfOk r (λ code. told_code answer ≡ Some code) → IfOk r (IsFirstCode (BreaksForms terms derives own' base'))
forms-first terms derives own base own' base' e f answer r ok err told =
    subst (λ b. IfOk r (IsFirstCode (BreaksForms terms derives own' b))) f
    (subst (λ o. IfOk r (IsFirstCode (BreaksForms terms derives o base))) e
    (told-first (FormRestricts terms derives own base) (code_of (form_case terms own base)) answer r ok err told))

-- ---- content
module _ (terms : List Term) (derives : TypeId → TypeId → Bool) (own base : Option Tree) where
  pub content-forms : (content : ContentType) → is_simple content ≡ false → (code : Option Code) → IsFirstCode (BreaksForms terms derives own base) code → IsFirstCode (BreaksContent terms derives content own base) code
  content-forms SimpleType e code first = absurd (false≢true (sym e))
  content-forms Empty e code first = first
  content-forms SimpleContent e code first = absurd (false≢true (sym e))
  content-forms ElementOnly e code first = first
  content-forms Mixed e code first = first

  only : IsFirstCode (λ c. c ≡ CosParticleRestrict2) (Some CosParticleRestrict2)
  only = (refl, λ other x. subst (λ c. stands_before c CosParticleRestrict2 ≡ false) (sym x) (not-itself CosParticleRestrict2))

  pub content-simple : (content : ContentType) → is_simple content ≡ true → IsFirstCode (BreaksContent terms derives content own base) (Some CosParticleRestrict2)
  content-simple SimpleType e = only
  content-simple Empty e = absurd (false≢true e)
  content-simple SimpleContent e = only
  content-simple ElementOnly e = absurd (false≢true e)
  content-simple Mixed e = absurd (false≢true e)

-- ---- restrictions
both_true : (a b : Bool) → (a && b) ≡ true → (a ≡ true) × (b ≡ true)
both_true true b e = (refl, e)
both_true false b e = absurd (false≢true e)

turned : (b : Bool) → not b ≡ true → b ≡ false
turned true e = absurd (false≢true e)
turned false e = refl

pub is-restriction : (part : ComplexType) → is_model_restriction part ≡ true → IsModelRestriction part
is-restriction part e =
    let first = both_true (not part.by_extension) (has_model part.content && not (is_any_type part.base)) e in
    let second = both_true (has_model part.content) (not (is_any_type part.base)) first.1 in
    record { restricts = turned part.by_extension first.0; model = second.0; base = turned (is_any_type part.base) second.1 }

pub no-restriction : (part : ComplexType) → is_model_restriction part ≡ false → IsModelRestriction part → ⊥
no-restriction part e is = false≢true (sym e ∙ met part.by_extension (has_model part.content) (is_any_type part.base) is.restricts is.model is.base)
  where
    met : (a b c : Bool) → a ≡ false → b ≡ true → c ≡ false → (not a && (b && not c)) ≡ true
    met a b c x y z = rw (x, y, z) refl

module _ (t : Tables) (members : List (List ℕ)) (terms : List Term) (derives : TypeId → TypeId → Bool) (n : ℕ) where
  pub simple-code : (base : TypeId) (content : ContentType) (answer : Bool) → content ≡ content_of t base → answer ≡ is_simple content → answer ≡ true → IsFirstCode (BreaksModel t members terms derives n base) (Some CosParticleRestrict2)
  simple-code base content answer at is e =
      subst (λ k. IsFirstCode (BreaksContent terms derives k (content_form t members (Complex n)) (content_form t members base)) (Some CosParticleRestrict2)) at
      (content-simple terms derives (content_form t members (Complex n)) (content_form t members base) content (sym is ∙ e))

  pub forms-code : {E : Type 0} (base : TypeId) (content : ContentType) (answer : Bool) (r : Result (Option Code) E) → content ≡ content_of t base → answer ≡ is_simple content → answer ≡ false →
      IfOk r (IsFirstCode (BreaksForms terms derives (content_form t members (Complex n)) (content_form t members base))) → IfOk r (IsFirstCode (BreaksModel t members terms derives n base))
  forms-code base content answer r at is e first =
      subst (λ k. IfOk r (IsFirstCode (BreaksContent terms derives k (content_form t members (Complex n)) (content_form t members base)))) at
      (if-ok r (IsFirstCode (BreaksForms terms derives (content_form t members (Complex n)) (content_form t members base)))
      (IsFirstCode (BreaksContent terms derives content (content_form t members (Complex n)) (content_form t members base)))
      (content-forms terms derives (content_form t members (Complex n)) (content_form t members base) content (sym is ∙ e)) first)

  pub restriction-code : {E : Type 0} (part : ComplexType) (answer : Bool) (r : Result (Option Code) E) → answer ≡ is_model_restriction part → answer ≡ true →
      IfOk r (IsFirstCode (BreaksModel t members terms derives n part.base)) → IfOk r (IsFirstCode (Breaks t members terms derives n part))
  restriction-code part answer r is e first =
      if-ok r (IsFirstCode (BreaksModel t members terms derives n part.base)) (IsFirstCode (Breaks t members terms derives n part))
      (given-first (IsModelRestriction part) (BreaksModel t members terms derives n part.base) (is-restriction part (sym is ∙ e))) first

  pub no-code : (part : ComplexType) (answer : Bool) → answer ≡ is_model_restriction part → answer ≡ false → IsFirstCode (Breaks t members terms derives n part) None
  no-code part answer is e = λ c x. no-restriction part (sym is ∙ e) x.0

-- ---- terms
pub types-there : (t : Tables) (P : TypeId → Type 0) → ((element : ℕ) → element < length t.elements.parts → P (type_of t element)) → (terms : List Term) → Each (HasType (IsElementType t)) terms → Each (HasType P) terms
types-there t P all terms = All-weaker (HasType (IsElementType t)) (HasType P) typed terms
  where
    typed : (term : Term) → HasType (IsElementType t) term → HasType P term
    typed (Element e) h = subst P (sym h.2) (all h.0 h.1)
    typed (Any s) h = tt
