-- The faults of phase 9 are the same by each right reading, so there is one first.
use Rattle.std.proofs.Common.{◌≡◌, ◌↔◌, inl, inr, ℕ, ◌≤◌, Bool, List, Option, None, Some, length, slice_get, ap, ◌∙◌, arith}
use Rattle.xs_codes.specs.declared.code.Code.{Code}
use Rattle.xs_codes.specs.declared.fault.Fault.{Fault}
use Rattle.xs_codes.proofs.LeastLaws.{least-same}
use Rattle.xs_names.specs.Names.{NameTable}
use Rattle.xs_components.specs.Tables.{Tables}
use Rattle.xs_components.specs.declared.common.TypeId.{TypeId}
use Rattle.xs_components.specs.declared.common.TypeId.TheVariants.{AnyType, Builtin, Simple, Complex}
use Rattle.component_tables.specs.ContentTypes.{content_of}
use Rattle.component_tables.specs.declared.content_types.ContentType.{ContentType}
use Rattle.component_tables.specs.declared.content_types.ContentType.TheVariants.{SimpleType, Empty, SimpleContent, ElementOnly, Mixed}
use Rattle.derive_models.specs.Derivation.{excluded}
use Rattle.elem_governing.specs.Derived.{derives}
use Rattle.particle_forms.specs.Models.{group_particle, model_of}
use Rattle.particle_models.specs.Trees.{Tree, once}
use Rattle.particle_restrict.specs.Codes.{code_of, form_case}
use Rattle.particle_restrict.specs.Restricts.{FormRestricts}
use Rattle.particle_restrict.specs.Terms.{TermsRestrict}
use Rattle.particle_restrict.specs.declared.terms.Term.{Term}
use Rattle.particle_models.specs.declared.part.Bounds.{Bounds}
use Rattle.derive_models.specs.AnyType.{content_particle}
use Rattle.derive_models.specs.Forms.{form_of, content_form}
use Rattle.derive_models.specs.Standing.{stands_for}
use Rattle.derive_models.specs.ModelRestrictions.{BreaksForms, BreaksContent, IsModelFault}
use Rattle.redefine_names.specs.declared.pairs.RedefinedPair.{RedefinedPair}
use Rattle.derive_models.specs.GroupRestrictions.{group_form, IsPairFault, IsRestrictionFault}
use Rattle.derive_models.specs.ModelFaults.{IsReading, IsFirstModelFault}
use Rattle.xs_codes.proofs.Firsts.{least-one}
use Rattle.derive_models.proofs.Numbered.{kept-too}
use Rattle.derive_models.proofs.StandingParts.{Stands, all-stand}
use Rattle.derive_models.proofs.Inside.{FormInside, formed-inside}
use Rattle.derive_models.proofs.ComparedLaws.{form-same, form-case-same}
use Rattle.derive_models.proofs.Alike.{AreAlike, turned, kind-same, terms-too, alike}

-- ---- forms
module _ (t : Tables) (members : List (List ℕ)) (few : length members ≤ length t.elements.parts) where
  form-inside : (particle : Option ℕ) → FormInside (Stands t) (form_of t members particle)
  form-inside None = tt
  form-inside (Some particle) = formed-inside (Stands t) (stands_for t members) (all-stand t members few) (model_of t particle) once

  content-inside : (of : TypeId) → FormInside (Stands t) (content_form t members of)
  content-inside AnyType = tt
  content-inside (Builtin kind) = tt
  content-inside (Simple id) = tt
  content-inside (Complex id) = form-inside (content_particle t id)

-- ---- faults by terms, and by others by which the same forms restrict the same, for the same reasons
abbrev AreSame : Tables → (TypeId → TypeId → Bool) → List Term → List Term → Type 0
AreSame t type_derives xs ys = (own base : Option Tree) → FormInside (Stands t) own → FormInside (Stands t) base →
    (FormRestricts ys type_derives own base → FormRestricts xs type_derives own base) × (form_case xs own base ≡ form_case ys own base)

module _ (t : Tables) (members : List (List ℕ)) (few : length members ≤ length t.elements.parts) (type_derives : TypeId → TypeId → Bool) (xs ys : List Term) (same : AreSame t type_derives xs ys) where
  breaks-too : (own base : Option Tree) → FormInside (Stands t) own → FormInside (Stands t) base → (code : Code) → BreaksForms xs type_derives own base code → BreaksForms ys type_derives own base code
  breaks-too own base p q code h = let s = same own base p q in ((λ r. h.0 (s.0 r)), h.1 ∙ ap code_of s.1)

  content-too : (of : ContentType) (own base : Option Tree) → FormInside (Stands t) own → FormInside (Stands t) base → (code : Code) →
      BreaksContent xs type_derives of own base code → BreaksContent ys type_derives of own base code
  content-too SimpleType own base p q code h = h
  content-too SimpleContent own base p q code h = h
  content-too Empty own base p q code h = breaks-too own base p q code h
  content-too ElementOnly own base p q code h = breaks-too own base p q code h
  content-too Mixed own base p q code h = breaks-too own base p q code h

  model-too : (f : Fault) → IsModelFault t members xs type_derives f → IsModelFault t members ys type_derives f
  model-too f h =
      let part = h.1.0 in
      let breaks = h.1.3 in (
        h.0,
        (
          part,
          h.1.1,
          h.1.2,
          (
            breaks.0,
            content-too (content_of t part.base) (content_form t members (Complex h.0)) (content_form t members part.base)
                (content-inside t members few (Complex h.0)) (content-inside t members few part.base) h.1.1 breaks.1,
          ),
          h.1.4,
        ),
      )

  pair-too : (pair : RedefinedPair) (f : Fault) → IsPairFault t members xs type_derives pair f → IsPairFault t members ys type_derives pair f
  pair-too pair f h =
      let s = same (group_form t members pair.own) (group_form t members pair.original) (form-inside t members few (group_particle t pair.own)) (form-inside t members few (group_particle t pair.original)) in
      (h.0, h.1, h.2, ((λ r. h.3.0 (s.0 r)), h.3.1), h.4)

  fault-too : (pairs : List RedefinedPair) (f : Fault) → IsRestrictionFault t members xs type_derives pairs f → IsRestrictionFault t members ys type_derives pairs f
  fault-too pairs f (inl h) = inl (model-too f h)
  fault-too pairs f (inr h) = inr (h.0, h.1, pair-too h.0 f h.2)

  phase-is : (pairs : List RedefinedPair) (f : Fault) → IsRestrictionFault t members ys type_derives pairs f → f.phase ≡ 9
  phase-is pairs f (inl h) = ap (λ (g : Fault). g.phase) h.1.4
  phase-is pairs f (inr h) = ap (λ (g : Fault). g.phase) h.2.4

-- ---- two readings
module _ (t : Tables) (names : NameTable) (type_derives : TypeId → TypeId → Bool) (xs ys : List Term) (one : IsReading t names xs) (other : IsReading t names ys) where
  like : (n : ℕ) → Stands t n → AreAlike t names one.fixed other.fixed n (slice_get xs n) (slice_get ys n)
  like = alike t names one.fixed other.fixed xs ys one.right other.right

  back : (n : ℕ) → Stands t n → AreAlike t names other.fixed one.fixed n (slice_get ys n) (slice_get xs n)
  back n s = turned t names one.fixed other.fixed n (slice_get xs n) (slice_get ys n) (like n s)

  terms-same : (bounds : Bounds) (n : ℕ) (base : Bounds) (m : ℕ) → Stands t n → Stands t m →
      TermsRestrict type_derives bounds (slice_get xs n) base (slice_get xs m) ↔ TermsRestrict type_derives bounds (slice_get ys n) base (slice_get ys m)
  terms-same bounds n base m p q = (
    terms-too t names one.fixed other.fixed (kept-too t one.fixed other.fixed one.numbers other.numbers) type_derives bounds base n (slice_get xs n) (slice_get ys n) m (slice_get xs m) (slice_get ys m) (like n p) (like m q),
    terms-too t names other.fixed one.fixed (kept-too t other.fixed one.fixed other.numbers one.numbers) type_derives bounds base n (slice_get ys n) (slice_get xs n) m (slice_get ys m) (slice_get xs m) (back n p) (back m q),
  )

  readings-same : AreSame t type_derives xs ys
  readings-same own base p q =
      let kinds = λ (n : ℕ) (s : Stands t n). kind-same t names one.fixed other.fixed n (slice_get xs n) (slice_get ys n) (like n s) in (
        (form-same xs ys type_derives (Stands t) kinds terms-same own base p q).1,
        form-case-same xs ys type_derives (Stands t) kinds terms-same own base p q,
      )

pub one-first : (t : Tables) (names : NameTable) (members : List (List ℕ)) (pairs : List RedefinedPair) (a b : Option Fault) → length members ≡ length t.elements.parts →
    IsFirstModelFault t names members pairs a → IsFirstModelFault t names members pairs b → a ≡ b
one-first t names members pairs a b each p q =
    let few : length members ≤ length t.elements.parts = omega arith in
    let type_derives = derives t excluded in
    let Broken = IsRestrictionFault t members q.0 type_derives pairs in
    let to = fault-too t members few type_derives p.0 q.0 (readings-same t names type_derives p.0 q.0 p.1 q.1) pairs in
    let from = fault-too t members few type_derives q.0 p.0 (readings-same t names type_derives q.0 p.0 q.1 p.1) pairs in
    least-one Broken 9 (phase-is t members few type_derives p.0 q.0 (readings-same t names type_derives p.0 q.0 p.1 q.1) pairs) a b
    (least-same (IsRestrictionFault t members p.0 type_derives pairs) Broken to from a p.2) q.2
