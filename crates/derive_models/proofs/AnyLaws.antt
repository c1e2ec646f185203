-- Marks of wildcards one after another.
use Rattle.std.proofs.Common.{◌≡◌, ◌⊎◌, inl, inr, ℕ, ◌+◌, ◌<◌, ◌≤◌, Bool, true, false, List, Option, None, Some, length, get_or, slice_get, refl, sym, ap, subst, ◌∙◌, arith, replicate}
use Rattle.std.specs.Prelude.{◌↔◌, ◌&&◌, IfSome, if◌then◌else◌, slice_index_or}
use Rattle.std.specs.Option.{option_and_then}
use Rattle.std.proofs.lemmas.Bool.{cases_eq, cases_lt, false≢true}
use Rattle.std.proofs.lemmas.Option.{none-some, same_Some, slice_get_within, get_or_from_slice_get, option_and_then_some}
use Rattle.std.proofs.lemmas.List.{length-replicate, get_or-replicate, get_or_past}
use Rattle.xs_components.specs.Tables.{Tables}
use Rattle.xs_components.specs.declared.complex.ComplexType.{ComplexType}
use Rattle.xs_components.specs.declared.complex.ContentForm.{ContentForm}
use Rattle.xs_components.specs.declared.complex.ContentForm.TheVariants as forms
use Rattle.xs_components.specs.declared.particle.Particle.{Particle as Part}
use Rattle.component_references.specs.Ranked.{held_particles, IsRanked}
use Rattle.derive_models.specs.AnyType.{is_any_type, content_particle, first_member, part_of_base, any_particle, IsOfAnyType}
use Rattle.derive_models.specs.Steps.{IsMarked, IsOfAnyTypeBelow, AreFlags}

unmarked : (count p : ℕ) → get_or (replicate count false) p false ≡ false
unmarked count p = elim (cases_lt p count) [
  | inl l ↦ get_or-replicate count p false false l
  | inr l ↦ get_or_past (replicate count false) p false (let e = length-replicate count false in omega arith)
]

pub flags-first : (t : Tables) (flags : List Bool) → flags ≡ replicate (length t.particles.parts) false → AreFlags t 0 flags
flags-first t flags e = record {
  each = ap length e ∙ length-replicate (length t.particles.parts) false;
  right = λ p. (
    (λ h. absurd (false≢true (sym (ap (λ fs. get_or fs p false) e ∙ unmarked (length t.particles.parts) p) ∙ h))),
    λ x. absurd (omega (arith, x.2)),
  );
}

-- it is this one, or not
is_some : (o : Option ℕ) (p : ℕ) → (o ≡ Some p) ⊎ (o ≡ Some p → ⊥)
is_some None p = inr (λ e. none-some p e)
is_some (Some q) p = elim (cases_eq q p) [ inl same ↦ inl (ap Some same) | inr differ ↦ inr (λ e. differ (same_Some q p e)) ]

pub flags-more : (t : Tables) (n : ℕ) (part : ComplexType) (old new : List Bool) → slice_get t.complexes.parts n ≡ Some part → AreFlags t n old → IsMarked old (any_particle t n part) new → AreFlags t (n + 1) new
flags-more t n part old new is was marked = record {
  each = marked.each ∙ was.each;
  right = λ p. (to p, from p);
}
  where
    to : (p : ℕ) → slice_index_or new p false ≡ true → IsOfAnyTypeBelow t (n + 1) p
    to p h = elim (is_some (any_particle t n part) p) [
      | inl e ↦ (n, part, omega arith, is, e)
      | inr differ ↦ (let x = (was.right p).0 (sym (marked.others p differ) ∙ h) in (x.0, x.1, omega (arith, x.2), x.3, x.4))
    ]

    kept : (p : ℕ) → slice_index_or old p false ≡ true → slice_index_or new p false ≡ true
    kept p h = elim (is_some (any_particle t n part) p) [
      | inl e ↦ marked.itself p e
      | inr differ ↦ marked.others p differ ∙ h
    ]

    from : (p : ℕ) → IsOfAnyTypeBelow t (n + 1) p → slice_index_or new p false ≡ true
    from p x = elim (cases_eq x.0 n) [
      | inl same ↦ (let at : slice_get t.complexes.parts n ≡ Some x.1 = ap (slice_get t.complexes.parts) (sym same) ∙ x.3 in
          let alike : x.1 ≡ part = same_Some x.1 part (sym at ∙ is) in
          let e : any_particle t n part ≡ Some p = subst (λ d. any_particle t n d ≡ Some p) alike (subst (λ k. any_particle t k x.1 ≡ Some p) same x.4) in
          marked.itself p e)
      | inr differ ↦ kept p ((was.right p).1 (x.0, x.1, omega (arith, x.2, differ), x.3, x.4))
    ]

pub flags-all : (t : Tables) (count : ℕ) (flags : List Bool) → length t.complexes.parts ≤ count → AreFlags t count flags → (p : ℕ) → (slice_index_or flags p false ≡ true) ↔ IsOfAnyType t p
flags-all t count flags past are p = (
  (λ h. let x = (are.right p).0 h in (x.0, x.1, x.3, x.4)),
  λ x. (are.right p).1 (x.0, x.1, (let l = slice_get_within t.complexes.parts x.0 x.1 x.2 in omega arith), x.2, x.3),
)

-- ---- the particles that are found are there
pub some-all : (o : Option ℕ) (P : ℕ → Type 0) → ((p : ℕ) → o ≡ Some p → P p) → IfSome o P
some-all None P f = tt
some-all (Some p) P f = f p refl

module _ (t : Tables) (ranked : IsRanked t) where
  pub member-there : (id p : ℕ) → first_member t id ≡ Some p → p < length t.particles.parts
  member-there id p = of (slice_get t.particles.parts id) refl
    where
      of : (o : Option Part) → slice_get t.particles.parts id ≡ o → option_and_then (λ (part : Part). slice_get (held_particles part.term) 0) o ≡ Some p → p < length t.particles.parts
      of None e h = absurd (none-some p h)
      of (Some part) e h =
          let l = slice_get_within (held_particles part.term) 0 p h in
          subst (λ k. k < length t.particles.parts) (get_or_from_slice_get (held_particles part.term) 0 p 0 h) (ranked.particles id part e 0 0 l).there

  pub part-there : (form : ContentForm) (content p : ℕ) → content < length t.particles.parts → part_of_base t form content ≡ Some p → p < length t.particles.parts
  part-there (forms.Simple own step) content p l h = absurd (none-some p h)
  part-there (forms.Complex None mixed) content p l h = subst (λ k. k < length t.particles.parts) (same_Some content p h) l
  part-there (forms.Complex (Some effective) mixed) content p l h = member-there content p h

  pub any-there : (n : ℕ) (part : ComplexType) (p : ℕ) → any_particle t n part ≡ Some p → p < length t.particles.parts
  any-there n part p = of (part.by_extension && is_any_type part.base)
    where
      of : (b : Bool) → (if b then option_and_then (first_member t) (option_and_then (part_of_base t part.content) (content_particle t n)) else None) ≡ Some p → p < length t.particles.parts
      of true h = option_and_then_some (first_member t) (option_and_then (part_of_base t part.content) (content_particle t n)) p h (λ x at is. member-there x p is)
      of false h = absurd (none-some p h)

-- ---- a turn of the loop
pub flags-turn : (t : Tables) (n id : ℕ) (part : ComplexType) (o : Option ℕ) (old new : List Bool) → id ≡ n → slice_get t.complexes.parts id ≡ Some part → o ≡ any_particle t id part → AreFlags t n old → IsMarked old o new →
    AreFlags t (n + 1) new
flags-turn t n id part o old new at is e was marked =
    flags-more t n part old new (ap (slice_get t.complexes.parts) (sym at) ∙ is) was (subst (λ o. IsMarked old o new) (e ∙ ap (λ k. any_particle t k part) at) marked)
