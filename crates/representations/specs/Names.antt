-- Which name a representation gives in which symbol space (Structures 2.5).
use Rattle.std.specs.Prelude.{ℕ, List, [], ◌∷◌, ◌++◌, Option, None, Some, map, if◌then◌else◌}
use Rattle.representations.specs.declared.parts.Represented.{Represented}
use Rattle.representations.specs.declared.parts.Represented.TheVariants as forms
use Rattle.representations.specs.declared.parts.Representation.{Representation}
use Rattle.representations.specs.declared.source.SymbolSpaces.{SymbolSpaces}

-- simple and complex types share one space; those that stand in others have no name
abbrev pub type_symbol : Represented → Option ℕ
type_symbol (forms.SimpleType name finals) = name
type_symbol (forms.ComplexType head) = head.name
type_symbol _ = None

-- elements and attributes at the top
abbrev pub element_symbol : Represented → Option ℕ
element_symbol (forms.Element element) = if element.global then element.name else None
element_symbol _ = None

abbrev pub attribute_symbol : Represented → Option ℕ
attribute_symbol (forms.Attribute attribute) = if attribute.global then attribute.name else None
attribute_symbol _ = None

abbrev pub group_symbol : Represented → Option ℕ
group_symbol (forms.Group name) = Some name
group_symbol _ = None

abbrev pub attr_group_symbol : Represented → Option ℕ
attr_group_symbol (forms.AttributeGroup name) = Some name
attr_group_symbol _ = None

-- keys, uniques and keyrefs
abbrev pub constraint_symbol : Represented → Option ℕ
constraint_symbol (forms.Unique name) = Some name
constraint_symbol (forms.Key name) = Some name
constraint_symbol (forms.Keyref name refer) = Some name
constraint_symbol _ = None

-- the spaces with one place more
abbrev pub with_symbols : SymbolSpaces → Represented → SymbolSpaces
with_symbols spaces form = record {
  types = spaces.types ++ type_symbol form ∷ [];
  elements = spaces.elements ++ element_symbol form ∷ [];
  attributes = spaces.attributes ++ attribute_symbol form ∷ [];
  groups = spaces.groups ++ group_symbol form ∷ [];
  attr_groups = spaces.attr_groups ++ attr_group_symbol form ∷ [];
  constraints = spaces.constraints ++ constraint_symbol form ∷ [];
}

-- the names that representations give in each space, by their places
abbrev pub spaces_of : List Representation → SymbolSpaces
spaces_of reps = record {
  types = map (λ r. type_symbol r.form) reps;
  elements = map (λ r. element_symbol r.form) reps;
  attributes = map (λ r. attribute_symbol r.form) reps;
  groups = map (λ r. group_symbol r.form) reps;
  attr_groups = map (λ r. attr_group_symbol r.form) reps;
  constraints = map (λ r. constraint_symbol r.form) reps;
}
