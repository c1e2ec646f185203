-- There is but one first term, and one term at the place that ends every marked prefix.
use Rattle.std.proofs.Common.{◌≡◌, ℕ, ◌≤◌, Bool, List, Option, None, Some, refl, sym, ap, ◌∙◌, arith}
use Rattle.std.specs.Prelude.{slice_index}
use Rattle.particle_models.specs.Particles.{Particle, Place}
use Rattle.particle_forms.specs.Models.{model_of}
use Rattle.content_automaton.specs.Terms.{ExpandedName}
use Rattle.content_automaton.specs.Modelled.{IsTermAt}
use Rattle.content_models.specs.Terms.{terms_of}
use Rattle.content_models.specs.Built.{IsFirstIn}
use Rattle.assessment.specs.Attribution.{SchemaSet}
use Rattle.assessment.proofs.Prefixes.{ends-begins}

pub one-first : (s : SchemaSet) (p : ℕ) (name : ExpandedName) (o q : Option ℕ) → IsFirstIn s.names s.parts s.members s.classes p name o → IsFirstIn s.names s.parts s.members s.classes p name q → o ≡ q
one-first s p name None None h k = refl
one-first s p name None (Some id) h (first, is, e) = absurd (h first is.0.0 is.0.1)
one-first s p name (Some id) None (first, is, e) k = absurd (k first is.0.0 is.0.1)
one-first s p name (Some id) (Some other) (first, is, e) (second, was, f) =
    let l : first ≤ second = is.1 second was.0.0 was.0.1 in
    let m : second ≤ first = was.1 first is.0.0 is.0.1 in
    let same : first ≡ second = omega arith in
    ap Some (sym e ∙ (ap (slice_index (terms_of (model_of s.parts p))) same ∙ f))

pub one-term : (accepts : ℕ → ExpandedName → Bool) (model : Particle) (names : List ExpandedName) (name : ExpandedName) (o q : Option ℕ) →
    IsTermAt accepts model names name o → IsTermAt accepts model names name q → o ≡ q
one-term accepts model names name None None h k = refl
one-term accepts model names name None (Some id) h (place, ends, only, e) = absurd (h (ends-begins accepts model names name place ends))
one-term accepts model names name (Some id) None (place, ends, only, e) k = absurd (k (ends-begins accepts model names name place ends))
one-term accepts model names name (Some id) (Some other) (place, ends, only, e) (second, there, alone, f) =
    ap Some (sym e ∙ (ap (λ (z : Place). z.number) (alone place ends) ∙ f))
