-- Particles whose term is an element or a wildcard.
use Rattle.std.specs.Prelude.{ℕ, Option, None, Some}
use Rattle.xs_components.specs.declared.particle.Term.{Term}
use Rattle.xs_components.specs.declared.particle.Term.TheVariants.{Element, Any, Group, Sequence, Choice, All}

-- the number of a particle, where its term is an element or a wildcard
abbrev pub term_of : Term → ℕ → Option ℕ
term_of (Element e) id = Some id
term_of (Any w) id = Some id
term_of (Group g) id = None
term_of (Sequence members) id = None
term_of (Choice members) id = None
term_of (All members) id = None
