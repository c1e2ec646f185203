-- The terms of a content model, with what they accept and what they then give.
use Rattle.std.specs.Prelude.{ℕ, ◌-◌, ◌^◌, List, [], ◌∷◌, ◌++◌, Option, None, Some, map, slice_get, slice_index_or, option_and_then, if◌then◌else◌}
use Rattle.xs_components.specs.Tables.{Tables}
use Rattle.xs_components.specs.Terms.{term_of}
use Rattle.xs_components.specs.declared.common.Process.{Process}
use Rattle.xs_components.specs.declared.common.Process.TheVariants.{Strict, Lax, Skip}
use Rattle.xs_components.specs.declared.particle.Particle.{Particle as Part}
use Rattle.xs_components.specs.declared.particle.Term.{Term}
use Rattle.xs_components.specs.declared.particle.Term.TheVariants.{Element, Any, Group, Sequence, Choice, All}
use Rattle.xs_components.specs.Heads.{names_of}
use Rattle.particle_models.specs.Particles.{Particle, Particles, term, sequence, choice, all_of, occurs, none, member}
use Rattle.particle_models.specs.Unrolled.{is_never}
use Rattle.particle_forms.specs.Models.{model_of}
use Rattle.content_automaton.specs.declared.symbol_terms.Given.{Given}
use Rattle.content_automaton.specs.declared.symbol_terms.Accepts.{Accepts}
use Rattle.content_automaton.specs.declared.symbol_terms.Accepts.TheVariants as accepted
use Rattle.component_tables.specs.Types.{given_declaration}

abbrev mutual
  -- the numbers of the terms of a model, in the order of the schema; a particle that comes no times has none
  pub terms_of : Particle → List ℕ
  terms_of (term number) = number ∷ []
  terms_of (sequence members) = terms_in members
  terms_of (choice members) = terms_in members
  terms_of (all_of members) = terms_in members
  terms_of (occurs least most part) = if is_never most then [] else terms_of part

  pub terms_in : Particles → List ℕ
  terms_in none = []
  terms_in (member first rest) = terms_of first ++ terms_in rest

-- The class of a wildcard (Structures 3.4.4) is that of how its children are processed.
abbrev pub process_class : Process → ℕ
process_class Strict = 2 ^ 32 - 1
process_class Lax = 2 ^ 32 - 2
process_class Skip = 2 ^ 32 - 3

-- a name that an element term accepts, with the class of the declaration that it then gives
abbrev pub given_by : Tables → List ℕ → ℕ → ℕ → Given
given_by t classes element name = record { name = name; class = slice_index_or classes (given_declaration t element name) 0 }

module _ (members : List (List ℕ)) (t : Tables) (classes : List ℕ) where
  -- an element term accepts the names of the members of its substitution group (Structures 3.3.6)
  abbrev pub term_accepts : Term → Accepts
  term_accepts (Element element) = accepted.Element (map (given_by t classes element) (names_of members element))
  term_accepts (Any wildcard) = accepted.Wildcard wildcard.namespaces (process_class wildcard.process)
  term_accepts (Group group) = accepted.Element []
  term_accepts (Sequence parts) = accepted.Element []
  term_accepts (Choice parts) = accepted.Element []
  term_accepts (All parts) = accepted.Element []

  abbrev pub part_accepts : Option Part → Accepts
  part_accepts None = accepted.Element []
  part_accepts (Some part) = term_accepts part.term

  -- what the term of the particle of a number accepts
  abbrev pub accepts_of : ℕ → Accepts
  accepts_of id = part_accepts (slice_get t.particles.parts id)

  -- what the terms of the content model of a particle accept, in the order of the schema
  abbrev pub model_terms : ℕ → List Accepts
  model_terms p = map accepts_of (terms_of (model_of t p))

-- the number of a particle, where its term is an element or a wildcard
abbrev pub term_number : Tables → ℕ → Option ℕ
term_number t id = option_and_then (λ part. term_of part.term id) (slice_get t.particles.parts id)
