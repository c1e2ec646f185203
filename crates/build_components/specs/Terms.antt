-- Particles by their representations (Structures 3.3.2, 3.7.2, 3.8.2, 3.9.2, 3.10.2).
use Rattle.std.specs.Prelude.{ℕ, ◌==◌, ◌&&◌, not, Bool, false, List, [], Option, None, Some, is_some, if◌then◌else◌}
use Rattle.std.specs.Option.{option_map, option_and_then, option_or, option_to_list}
use Rattle.xs_components.specs.declared.common.Place.{Place}
use Rattle.xs_components.specs.declared.particle.Particle.{Particle}
use Rattle.xs_components.specs.declared.particle.Term.{Term}
use Rattle.xs_components.specs.declared.particle.Term.TheVariants as terms
use Rattle.representations.specs.declared.parts.ComplexTypeRepresentation.{ComplexTypeRepresentation}
use Rattle.representations.specs.declared.parts.ElementRepresentation.{ElementRepresentation}
use Rattle.representations.specs.declared.parts.Represented.{Represented}
use Rattle.representations.specs.declared.parts.Represented.TheVariants as forms
use Rattle.representations.specs.declared.parts.Representation.{Representation}
use Rattle.representations.specs.declared.source.Source.{Source}
use Rattle.set_representations.specs.Numbers.{number_at, number_named, numbers_in}
use Rattle.build_components.specs.Contents.{has_simple_content, is_mixed, holder, explicit_content}

-- it never comes
abbrev pub is_never : Option ℕ → Bool
is_never None = false
is_never (Some max) = max == 0

-- a particle that never comes is none
abbrev pub particle_with : Representation → Option Term → Option Particle
particle_with rep term = if is_never rep.max then None else option_map (λ term. record { at = rep.at; min = rep.min; max = rep.max; term = term }) term

-- where elements have these numbers by place
module _ (source : Source) (elements : List (Option ℕ)) where
  -- the element at the top that is referred to, or the one that is declared there
  abbrev pub meant_element : Option ℕ → ℕ → Option ℕ
  meant_element (Some name) place = number_named elements source.spaces.now.elements name
  meant_element None place = number_at elements place

  -- an element at the top is no particle
  abbrev pub element_term : ElementRepresentation → ℕ → Option Term
  element_term element place = if element.global then None else option_map terms.Element (meant_element element.reference place)

-- where groups have these numbers by place
module _ (source : Source) (groups : List (Option ℕ)) where
  abbrev pub group_term : Option ℕ → Option Term
  group_term to = option_map terms.Group (option_and_then (number_named groups source.spaces.now.groups) to)

-- where the particles behind have these numbers by place
module _ (source : Source) (particles : List (Option ℕ)) where
  -- a mixed type has no explicit content
  abbrev pub has_empty_sequence : ComplexTypeRepresentation → Representation → Bool
  has_empty_sequence head rep =
      not (has_simple_content source.reps.now rep.members) && is_mixed source.reps.now head.mixed rep.members
      && not (is_some (explicit_content source.reps.now particles (holder source.reps.now rep).members))

  -- the effective content of such a type is an empty sequence (Structures 3.4.2)
  abbrev pub empty_sequence : Place → Particle
  empty_sequence at = record { at = at; min = 1; max = Some 1; term = terms.Sequence [] }

  abbrev pub empty_content : Represented → Representation → Option Particle
  empty_content (forms.ComplexType head) rep = if has_empty_sequence head rep then Some (empty_sequence rep.at) else None
  empty_content _ rep = None

-- where elements, groups, and the particles behind have these numbers by place
module _ (source : Source) (elements groups particles : List (Option ℕ)) where
  -- an element, a wildcard, a group by reference, or a model group, whose members are the particles in it
  abbrev pub term_by : Represented → ℕ → List ℕ → Option Term
  term_by (forms.Element element) place members = element_term source elements element place
  term_by (forms.GroupReference to) place members = group_term source groups to
  term_by (forms.Any wildcard) place members = Some (terms.Any wildcard)
  term_by forms.Sequence place members = Some (terms.Sequence (numbers_in particles members))
  term_by forms.Choice place members = Some (terms.Choice (numbers_in particles members))
  term_by forms.All place members = Some (terms.All (numbers_in particles members))
  term_by _ place members = None

  -- the particle that stands at a place, if one does
  abbrev pub particle_of : ℕ → Representation → Option Particle
  particle_of place rep = option_or (empty_content source particles rep.form rep) (particle_with rep (term_by rep.form place rep.members))

  abbrev pub particles_of : ℕ → Representation → List Particle
  particles_of place rep = option_to_list (particle_of place rep)
