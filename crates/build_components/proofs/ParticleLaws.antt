-- What particles hold and refer to is there.
use Rattle.std.proofs.Common.{◌≡◌, ◌⊎◌, inl, inr, ℕ, zero, suc, ◌+◌, ◌<◌, List, [], ◌∷◌, ◌++◌, Bool, true, false, Option, None, Some, length, refl, arith}
use Rattle.std.specs.Prelude.{All, IfSome, slice_get, if◌then◌else◌}
use Rattle.std.specs.Option.{option_map, option_and_then, option_or, option_to_list}
use Rattle.std.proofs.lemmas.List.{length-append}
use Rattle.std.proofs.lemmas.List.Elements.{All-nil, All-append, All-weaker}
use Rattle.std.proofs.lemmas.Option.{none-some, same_Some}
use Rattle.xs_components.specs.declared.common.Wildcard.{Wildcard}
use Rattle.xs_components.specs.declared.particle.Particle.{Particle}
use Rattle.xs_components.specs.declared.particle.Term.{Term}
use Rattle.xs_components.specs.declared.particle.Term.TheVariants as terms
use Rattle.component_references.specs.Ranked.{held_particles, named_group}
use Rattle.representations.specs.declared.parts.Represented.{Represented}
use Rattle.representations.specs.declared.parts.Represented.TheVariants as forms
use Rattle.representations.specs.declared.parts.Representation.{Representation}
use Rattle.representations.specs.declared.source.Source.{Source}
use Rattle.set_representations.specs.Numbers.{number_of, number_named, numbers_in}
use Rattle.build_components.specs.Terms.{is_never, meant_element, term_by, particle_with, has_empty_sequence, empty_sequence, empty_content, particles_of}
use Rattle.build_components.specs.Particles.{Particles, padded, particles_at, particles_from}
use Rattle.build_components.specs.There.{named_element}
use Rattle.build_components.proofs.ListLaws.{all-at, all-one}
use Rattle.build_components.proofs.ThereLaws.{AreBelow, in-below, named-below, referred-below}

-- places without a number before others change nothing
padded-below : (count places : ℕ) (numbers : List (Option ℕ)) → AreBelow count numbers → AreBelow count (padded places numbers)
padded-below count zero numbers below place n is = below place n is
padded-below count (suc places) numbers below zero n is = absurd (none-some n is)
padded-below count (suc places) numbers below (suc place) n is = padded-below count places numbers below place n is

-- a part is among the first or among the others
parted : {X : Type 0} (xs ys : List X) (n : ℕ) (x : X) → slice_get (xs ++ ys) n ≡ Some x → (slice_get xs n ≡ Some x) ⊎ ((m : ℕ) × (n ≡ length xs + m) × (slice_get ys m ≡ Some x))
parted [] ys n x is = inr (n, omega arith, is)
parted (y ∷ xs) ys zero x is = inl is
parted (y ∷ xs) ys (suc n) x is = elim (parted xs ys n x is) [
  | inl first ↦ inl first
  | inr other ↦ inr (other.0, omega (arith, other.1), other.2)
]

abbrev particle-of : Representation → Term → Particle
particle-of rep term = record { at = rep.at; min = rep.min; max = rep.max; term = term }

module _ (source : Source) (elements groups known : List (Option ℕ)) (Q : Term → Type 0) where
  -- what is true of each term that stands at a place is true of the particle there
  abbrev Has : Particle → Type 0
  Has part = Q part.term

  either-has : (first second : Option Particle) → IfSome first Has → IfSome second Has → All Has (option_to_list (option_or first second))
  either-has None None a b = All-nil Has
  either-has None (Some part) a b = all-one Has part b
  either-has (Some part) second a b = all-one Has part a

  sequence-has : (is : Bool) (part : Particle) → Q part.term → IfSome (if is then Some part else None) Has
  sequence-has true part q = q
  sequence-has false part q = tt

  empty-has : Q (terms.Sequence []) → (form : Represented) (rep : Representation) → IfSome (empty_content source known form rep) Has
  empty-has none (forms.ComplexType head) rep = sequence-has (has_empty_sequence source known head rep) (empty_sequence source known rep.at) none
  empty-has none _ rep = tt

  with-has : (never : Bool) (rep : Representation) (term : Option Term) → IfSome term Q
      → IfSome (if never then None else option_map (λ (term : Term). particle-of rep term) term) Has
  with-has true rep term q = tt
  with-has false rep None q = tt
  with-has false rep (Some term) q = q

  particles-have : Q (terms.Sequence []) → (place : ℕ) (rep : Representation) → IfSome (term_by source elements groups known rep.form place rep.members) Q
      → All Has (particles_of source elements groups known place rep)
  particles-have none place rep q =
      either-has (empty_content source known rep.form rep) (particle_with rep (term_by source elements groups known rep.form place rep.members)) (empty-has none rep.form rep)
      (with-has (is_never rep.max) rep (term_by source elements groups known rep.form place rep.members) q)

  -- what is true of each kind of term
  record Each-kind : Type 0 where
    element : (reference : Option ℕ) (place n : ℕ) → meant_element source elements reference place ≡ Some n → Q (terms.Element n)
    group : (to : Option ℕ) (n : ℕ) → option_and_then (number_named groups source.spaces.now.groups) to ≡ Some n → Q (terms.Group n)
    any : (wildcard : Wildcard) → Q (terms.Any wildcard)
    sequence : (members : List ℕ) → Q (terms.Sequence (numbers_in known members))
    choice : (members : List ℕ) → Q (terms.Choice (numbers_in known members))
    all : (members : List ℕ) → Q (terms.All (numbers_in known members))

  made-has : (make : ℕ → Term) (found : Option ℕ) → ((n : ℕ) → found ≡ Some n → Q (make n)) → IfSome (option_map make found) Q
  made-has make None one = tt
  made-has make (Some n) one = one n refl

  element-has : (global : Bool) (found : Option ℕ) → ((n : ℕ) → found ≡ Some n → Q (terms.Element n)) → IfSome (if global then None else option_map terms.Element found) Q
  element-has true found one = tt
  element-has false found one = made-has terms.Element found one

  term-has : Each-kind → (form : Represented) (place : ℕ) (members : List ℕ) → IfSome (term_by source elements groups known form place members) Q
  term-has each (forms.Element element) place members = element-has element.global (meant_element source elements element.reference place) (each.element element.reference place)
  term-has each (forms.GroupReference to) place members = made-has terms.Group (option_and_then (number_named groups source.spaces.now.groups) to) (each.group to)
  term-has each (forms.Any wildcard) place members = each.any wildcard
  term-has each forms.Sequence place members = each.sequence members
  term-has each forms.Choice place members = each.choice members
  term-has each forms.All place members = each.all members
  term-has each _ place members = tt

  place-has : Each-kind → (place : ℕ) (rep : Representation) → All (λ (part : Particle). Q part.term) (particles_of source elements groups known place rep)
  place-has each place rep = particles-have (each.sequence []) place rep (term-has each rep.form place rep.members)

module _ (source : Source) (elements groups : List (Option ℕ)) where
  -- a term holds particles below a count
  abbrev Holds : ℕ → Term → Type 0
  Holds count term = All (λ n. n < count) (held_particles term)

  holds : (count : ℕ) (known : List (Option ℕ)) → AreBelow count known → Each-kind source elements groups known (Holds count)
  holds count known below = record {
    element = λ reference place n is. All-nil (λ n. n < count);
    group = λ to n is. All-nil (λ n. n < count);
    any = λ wildcard. All-nil (λ n. n < count);
    sequence = in-below count known below;
    choice = in-below count known below;
    all = in-below count known below;
  }

  -- a term refers to a group, or is an element, below a count
  abbrev pub NamesGroup : ℕ → Term → Type 0
  NamesGroup count term = IfSome (named_group term) (λ n. n < count)

  names-group : (count : ℕ) (known : List (Option ℕ)) → AreBelow count groups → Each-kind source elements groups known (NamesGroup count)
  names-group count known below = record {
    element = λ reference place n is. tt;
    group = referred-below count groups below source.spaces.now.groups;
    any = λ wildcard. tt;
    sequence = λ members. tt;
    choice = λ members. tt;
    all = λ members. tt;
  }

  abbrev pub NamesElement : ℕ → Term → Type 0
  NamesElement count term = IfSome (named_element term) (λ n. n < count)

  meant-below : (count : ℕ) → AreBelow count elements → (reference : Option ℕ) (place n : ℕ) → meant_element source elements reference place ≡ Some n → n < count
  meant-below count below None place n is = below place n is
  meant-below count below (Some name) place n is = named-below count elements below source.spaces.now.elements name n is

  names-element : (count : ℕ) (known : List (Option ℕ)) → AreBelow count elements → Each-kind source elements groups known (NamesElement count)
  names-element count known below = record {
    element = meant-below count below;
    group = λ to n is. tt;
    any = λ wildcard. tt;
    sequence = λ members. tt;
    choice = λ members. tt;
    all = λ members. tt;
  }

  abbrev from : ℕ → List Representation → Particles
  from place reps = particles_from source elements groups 0 place reps

  last-below : (made behind : List Particle) (n : ℕ) → number_of made (0 + length behind) ≡ Some n → n < length (behind ++ made)
  last-below [] behind n is = absurd (none-some n is)
  last-below (part ∷ made) behind n is = omega (arith, same_Some (0 + length behind) n is, length-append behind (part ∷ made))

  -- the numbers of particles are below their count
  pub particles-below : (place : ℕ) (reps : List Representation) → AreBelow (length (from place reps).parts) (from place reps).numbers
  particles-below place [] at n is = absurd (none-some n is)
  particles-below place (rep ∷ reps) zero n is = last-below (particles_at source elements groups 0 place rep (from (suc place) reps)) (from (suc place) reps).parts n is
  particles-below place (rep ∷ reps) (suc at) n is =
      omega (arith, particles-below (suc place) reps at n is, length-append (from (suc place) reps).parts (particles_at source elements groups 0 place rep (from (suc place) reps)))

  held-above : (count n : ℕ) (part : Particle) (m : ℕ) → n ≡ count + m → Holds count part.term → All (λ k. k < n) (held_particles part.term)
  held-above count n part m is holds = All-weaker (λ k. k < count) (λ k. k < n) (λ k low. omega (arith, low, is)) (held_particles part.term) holds

  -- a particle holds particles with lower numbers
  pub particles-held : (place : ℕ) (reps : List Representation) (n : ℕ) (part : Particle) → slice_get (from place reps).parts n ≡ Some part → All (λ m. m < n) (held_particles part.term)
  particles-held place [] n part is = absurd (none-some part is)
  particles-held place (rep ∷ reps) n part is =
      let behind = from (suc place) reps in
      let count = length behind.parts in
      let made = particles_at source elements groups 0 place rep behind in
      let known = padded (suc place) behind.numbers in
      let below = padded-below count (suc place) behind.numbers (particles-below (suc place) reps) in
      let all = place-has source elements groups known (Holds count) (holds count known below) place rep in
      elim (parted behind.parts made n part is) [
        | inl first ↦ particles-held (suc place) reps n part first
        | inr last ↦ held-above count n part last.0 last.1 (all-at (λ (p : Particle). Holds count p.term) made all last.0 part last.2)
      ]

  -- what is true of each kind of term, whatever is behind, is true of each particle
  particles-all : (Q : Term → Type 0) → ((known : List (Option ℕ)) → Each-kind source elements groups known Q) → (place : ℕ) (reps : List Representation)
      → All (λ (part : Particle). Q part.term) (from place reps).parts
  particles-all Q each place [] = All-nil (λ (part : Particle). Q part.term)
  particles-all Q each place (rep ∷ reps) =
      let behind = from (suc place) reps in
      let known = padded (suc place) behind.numbers in
      All-append (λ (part : Particle). Q part.term) behind.parts (particles_at source elements groups 0 place rep behind) (particles-all Q each (suc place) reps)
      (place-has source elements groups known Q (each known) place rep)

  -- a particle refers to a group that is there
  pub groups-named : (count : ℕ) → AreBelow count groups → (place : ℕ) (reps : List Representation) → All (λ (part : Particle). NamesGroup count part.term) (from place reps).parts
  groups-named count below place reps = particles-all (NamesGroup count) (λ known. names-group count known below) place reps

  -- a particle is of an element that is there
  pub elements-named : (count : ℕ) → AreBelow count elements → (place : ℕ) (reps : List Representation) → All (λ (part : Particle). NamesElement count part.term) (from place reps).parts
  elements-named count below place reps = particles-all (NamesElement count) (λ known. names-element count known below) place reps
