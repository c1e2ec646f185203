-- The namespaces that the wildcards of a schema set name.
use Rattle.std.specs.Prelude.{◌≡◌, ℕ, ◌<◌, List, [], All, Some, length, slice_get}
use Rattle.xs_names.specs.Names.{NameTable}
use Rattle.xs_components.specs.declared.particle.Particle.{Particle}
use Rattle.xs_components.specs.declared.particle.Term.{Term}
use Rattle.xs_components.specs.declared.particle.Term.TheVariants.{Any}
use Rattle.content_automaton.specs.Terms.{spaces_in}
use Rattle.assessment.specs.Attribution.{SchemaSet}

-- the table has namespaces of these numbers
abbrev pub AreSpacesOf : NameTable → List ℕ → Type 0
AreSpacesOf t spaces = All (λ space. space < length t.spaces) spaces

-- the namespaces that a wildcard names
abbrev pub named_spaces : Term → List ℕ
named_spaces (Any wildcard) = spaces_in wildcard.namespaces
named_spaces _ = []

-- each namespace that a wildcard of a content model names (Structures 3.10.1) is one of the table of the set
abbrev pub HasSpacesNamed : SchemaSet → Type 0
HasSpacesNamed s = (n : ℕ) (part : Particle) → slice_get s.parts.particles.parts n ≡ Some part → AreSpacesOf s.names (named_spaces part.term)
