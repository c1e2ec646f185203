-- Particles from the last place to the first.
use Rattle.std.proofs.Common.{◌≡◌, ℕ, zero, suc, ◌+◌, ◌<◌, ◌≤◌, List, [], ◌∷◌, Option, None, length, drop, set, get_or, refl, sym, ap, ◌∙◌, arith}
use Rattle.std.proofs.Math.ListN.{replicate}
use Rattle.std.proofs.lemmas.List.{drop_more}
use Rattle.xs_components.specs.Table.{TableOf}
use Rattle.xs_components.specs.declared.particle.Particle.{Particle}
use Rattle.representations.specs.declared.parts.Representation.{Representation}
use Rattle.representations.specs.declared.source.Source.{Source}
use Rattle.set_representations.specs.Numbers.{number_of, with_parts}
use Rattle.set_representations.proofs.NumberLaws.{with_parts_more}
use Rattle.build_components.specs.Particles.{Particles, padded, particles_at, particles_from, with_next}
use Rattle.build_components.specs.Terms.{particles_of}

pub padded_none : (places : ℕ) → replicate places None ≡ padded places []
padded_none zero = refl
padded_none (suc places) = ap (λ (numbers : List (Option ℕ)). None ∷ numbers) (padded_none places)

pub padded_long : (places : ℕ) (numbers : List (Option ℕ)) → places ≤ length (padded places numbers)
padded_long zero numbers = omega arith
padded_long (suc places) numbers = omega (arith, padded_long places numbers)

-- the last of the places gets a number
padded_set : (places : ℕ) (numbers : List (Option ℕ)) (number : Option ℕ) → set (padded (suc places) numbers) places number ≡ padded places (number ∷ numbers)
padded_set zero numbers number = refl
padded_set (suc places) numbers number = ap (λ (all : List (Option ℕ)). None ∷ all) (padded_set places numbers number)

one-more : (n : ℕ) → n + 1 ≡ suc n
one-more n = omega arith

module _ (source : Source) (elements groups : List (Option ℕ)) (before : ℕ) where
  pub next_is : (reps : List Representation) (place : ℕ) (rep : Representation) → place < length reps → rep ≡ get_or reps place rep
      → particles_from source elements groups before place (drop place reps) ≡ with_next source elements groups before place rep (particles_from source elements groups before (suc place) (drop (suc place) reps))
  next_is reps place rep within is =
      ap (λ (all : List Representation). particles_from source elements groups before place all) (drop_more reps place rep within ∙ ap (λ (r : Representation). r ∷ drop (place + 1) reps) (sym is))
      ∙ ap (λ (n : ℕ). with_next source elements groups before place rep (particles_from source elements groups before (suc place) (drop n reps))) (one-more place)

  pub next_numbers : (ids : List (Option ℕ)) (number : Option ℕ) (total place : ℕ) (rep : Representation) (behind : Particles)
      → ids ≡ padded (suc place) behind.numbers → number ≡ number_of (particles_of source elements groups ids place rep) total → total ≡ before + length behind.parts
      → set ids place number ≡ padded place (with_next source elements groups before place rep behind).numbers
  next_numbers ids number total place rep behind same is count =
      ap (λ (all : List (Option ℕ)). set all place number) same
      ∙ padded_set place behind.numbers number
      ∙ ap (λ (n : Option ℕ). padded place (n ∷ behind.numbers))
      (is ∙ ap (λ (all : List (Option ℕ)). number_of (particles_of source elements groups all place rep) total) same
      ∙ ap (λ (n : ℕ). number_of (particles_at source elements groups before place rep behind) n) count)

  pub next_parts : (t : TableOf Particle) (ids : List (Option ℕ)) (place : ℕ) (rep : Representation) (behind : Particles) → ids ≡ padded (suc place) behind.numbers
      → with_parts (with_parts t behind.parts) (particles_of source elements groups ids place rep) ≡ with_parts t (with_next source elements groups before place rep behind).parts
  next_parts t ids place rep behind same =
      ap (λ (all : List (Option ℕ)). with_parts (with_parts t behind.parts) (particles_of source elements groups all place rep)) same
      ∙ with_parts_more t behind.parts (particles_at source elements groups before place rep behind)
