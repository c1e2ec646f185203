-- Whether a name is ambivalent in a content model (Structures 3.4.4), as a test.
use Rattle.std.specs.Prelude.{ℕ, Bool, false, not, ◌==◌, List, [], ◌∷◌, map, filter, if◌then◌else◌}
use Rattle.std.specs.List.{list_any, flat_map}
use Rattle.xs_names.specs.Names.{NameTable, same_name}
use Rattle.xs_components.specs.Sets.{admits}
use Rattle.content_automaton.specs.Terms.{ExpandedName, name_at}
use Rattle.content_automaton.specs.declared.symbol_terms.Accepts.{Accepts}
use Rattle.content_automaton.specs.declared.symbol_terms.Accepts.TheVariants.{Element, Wildcard}
use Rattle.content_automaton.specs.declared.symbol_terms.Given.{Given}
use Rattle.content_models.specs.Terms.{model_terms}
use Rattle.assessment.specs.Attribution.{SchemaSet}

-- the classes of what a term gives to the name, where it accepts it
abbrev pub given_classes : NameTable → ExpandedName → Accepts → List ℕ
given_classes t name (Element given) = map (λ (g : Given). g.class) (filter (λ (g : Given). same_name (name_at t g.name) name) given)
given_classes t name (Wildcard namespaces class) = if admits namespaces name.0 then class ∷ [] else []

-- some two of them differ
abbrev pub has_two : List ℕ → Bool
has_two [] = false
has_two (class ∷ classes) = list_any (λ other. not (other == class)) classes

-- terms of different classes accept the name, in the content model of a particle
abbrev pub is_ambivalent : SchemaSet → ℕ → ℕ → Bool
is_ambivalent s p name = has_two (flat_map (given_classes s.names (name_at s.names name)) (model_terms s.members s.parts s.classes p))
