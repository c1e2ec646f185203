-- The namespaces that the particles of representations name.
use Rattle.std.proofs.Common.{ℕ, suc, ◌<◌, List, [], ◌∷◌, Bool, true, false, Option, None, Some, length}
use Rattle.std.specs.Prelude.{All, IfSome, if◌then◌else◌}
use Rattle.std.specs.Option.{option_map, option_or, option_and_then, option_to_list}
use Rattle.std.proofs.lemmas.List.Elements.{All-nil, All-head, All-tail, All-append}
use Rattle.xs_names.specs.Names.{NameTable}
use Rattle.xs_components.specs.declared.particle.Particle.{Particle}
use Rattle.xs_components.specs.declared.particle.Term.{Term}
use Rattle.xs_components.specs.declared.particle.Term.TheVariants as terms
use Rattle.representations.specs.declared.parts.Representation.{Representation}
use Rattle.representations.specs.declared.parts.Represented.{Represented}
use Rattle.representations.specs.declared.parts.Represented.TheVariants as parts
use Rattle.representations.specs.declared.source.Source.{Source}
use Rattle.set_representations.specs.Numbers.{number_named}
use Rattle.build_components.specs.Terms.{is_never, meant_element, term_by, particle_with, has_empty_sequence, empty_sequence, empty_content, particles_of}
use Rattle.build_components.specs.Particles.{padded, particles_at, particles_from}
use Rattle.build_components.proofs.ListLaws.{all-one}
use Rattle.kept_next.specs.Spaces.{AreSpacesOf, named_spaces}
use Rattle.told.proofs.Forms.{IsSpaced, AreSpaced}

module _ (t : NameTable) where
  abbrev pub IsTermSpaced : Term → Type 0
  IsTermSpaced term = AreSpacesOf t (named_spaces term)

  abbrev pub IsPartSpaced : Particle → Type 0
  IsPartSpaced part = IsTermSpaced part.term

  none-named : All (λ (n : ℕ). n < length t.spaces) []
  none-named = All-nil (λ (n : ℕ). n < length t.spaces)

  either-spaced : (first second : Option Particle) → IfSome first IsPartSpaced → IfSome second IsPartSpaced → All IsPartSpaced (option_to_list (option_or first second))
  either-spaced None None a b = All-nil IsPartSpaced
  either-spaced None (Some part) a b = all-one IsPartSpaced part b
  either-spaced (Some part) second a b = all-one IsPartSpaced part a

  made-spaced : (make : ℕ → Term) → ((n : ℕ) → IsTermSpaced (make n)) → (found : Option ℕ) → IfSome (option_map make found) IsTermSpaced
  made-spaced make each None = tt
  made-spaced make each (Some n) = each n

  element-spaced : (global : Bool) (found : Option ℕ) → IfSome (if global then None else option_map terms.Element found) IsTermSpaced
  element-spaced true found = tt
  element-spaced false found = made-spaced terms.Element (λ n. none-named) found

  with-spaced : (never : Bool) (rep : Representation) (term : Option Term) → IfSome term IsTermSpaced
      → IfSome (if never then None else option_map (λ (term : Term). record { at = rep.at; min = rep.min; max = rep.max; term = term }) term) IsPartSpaced
  with-spaced true rep term h = tt
  with-spaced false rep None h = tt
  with-spaced false rep (Some term) h = h

  if-spaced : (is : Bool) (part : Particle) → IsPartSpaced part → IfSome (if is then Some part else None) IsPartSpaced
  if-spaced true part h = h
  if-spaced false part h = tt

  module _ (source : Source) (elements groups : List (Option ℕ)) where
    module _ (known : List (Option ℕ)) where
      empty-spaced : (form : Represented) (rep : Representation) → IfSome (empty_content source known form rep) IsPartSpaced
      empty-spaced (parts.ComplexType head) rep = if-spaced (has_empty_sequence source known head rep) (empty_sequence source known rep.at) none-named
      empty-spaced _ rep = tt

      term-spaced : (form : Represented) (place : ℕ) (members : List ℕ) → IsSpaced t form → IfSome (term_by source elements groups known form place members) IsTermSpaced
      term-spaced (parts.Element element) place members h = element-spaced element.global (meant_element source elements element.reference place)
      term-spaced (parts.GroupReference to) place members h = made-spaced terms.Group (λ n. none-named) (option_and_then (number_named groups source.spaces.now.groups) to)
      term-spaced (parts.Any wildcard) place members h = h
      term-spaced parts.Sequence place members h = none-named
      term-spaced parts.Choice place members h = none-named
      term-spaced parts.All place members h = none-named
      term-spaced _ place members h = tt

      place-spaced : (place : ℕ) (rep : Representation) → IsSpaced t rep.form → All IsPartSpaced (particles_of source elements groups known place rep)
      place-spaced place rep h =
          either-spaced (empty_content source known rep.form rep) (particle_with rep (term_by source elements groups known rep.form place rep.members)) (empty-spaced rep.form rep)
          (with-spaced (is_never rep.max) rep (term_by source elements groups known rep.form place rep.members) (term-spaced rep.form place rep.members h))

    pub particles-spaced : (before place : ℕ) (reps : List Representation) → AreSpaced t reps → All IsPartSpaced (particles_from source elements groups before place reps).parts
    particles-spaced before place [] h = All-nil IsPartSpaced
    particles-spaced before place (rep ∷ reps) h =
        let behind = particles_from source elements groups before (suc place) reps in
        All-append IsPartSpaced behind.parts (particles_at source elements groups before place rep behind)
        (particles-spaced before (suc place) reps (All-tail (λ (x : Representation). IsSpaced t x.form) rep reps h))
        (place-spaced (padded (suc place) behind.numbers) place rep (All-head (λ (x : Representation). IsSpaced t x.form) rep reps h))
