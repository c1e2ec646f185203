-- Which references resolve.
use Rattle.std.specs.Prelude.{ℕ, Bool, false, List, Option, None, Some, map, is_some}
use Rattle.component_tables.specs.Symbols.{first_place}
use Rattle.representations.specs.declared.parts.Represented.{Represented}
use Rattle.representations.specs.declared.parts.Represented.TheVariants as forms
use Rattle.representations.specs.declared.parts.Representation.{Representation}
use Rattle.representations.specs.declared.source.SymbolSpaces.{SymbolSpaces}
use Rattle.reference_faults.specs.declared.lookup.Kinds.{Kinds}
use Rattle.reference_faults.specs.declared.reference.Reference.{Reference}
use Rattle.reference_faults.specs.declared.reference.Reference.TheVariants.{ToElement, ToAttribute, ToType, ToSimpleType, ToAnyTypeAsSimple, ToGroup, ToAttributeGroup, ToKey}

abbrev pub simple_symbol : Represented → Option ℕ
simple_symbol (forms.SimpleType name finals) = name
simple_symbol _ = None

abbrev pub key_symbol : Represented → Option ℕ
key_symbol (forms.Unique name) = Some name
key_symbol (forms.Key name) = Some name
key_symbol _ = None

-- the names of simple types, and of keys and uniques, by their places
abbrev pub kinds_of : List Representation → Kinds
kinds_of reps = record { simples = map (λ r. simple_symbol r.form) reps; keys = map (λ r. key_symbol r.form) reps }

-- a component has the name
abbrev pub is_named : List (Option ℕ) → ℕ → Bool
is_named symbols name = is_some (first_place symbols name)

module _ (spaces : SymbolSpaces) (kinds : Kinds) where
  -- Structures 3.15.3: a component of the kind that is needed has the name
  abbrev pub resolves : Reference → Bool
  resolves (ToElement name) = is_named spaces.elements name
  resolves (ToAttribute name) = is_named spaces.attributes name
  resolves (ToType name) = is_named spaces.types name
  resolves (ToSimpleType name) = is_named kinds.simples name
  resolves ToAnyTypeAsSimple = false
  resolves (ToGroup name) = is_named spaces.groups name
  resolves (ToAttributeGroup name) = is_named spaces.attr_groups name
  resolves (ToKey name) = is_named kinds.keys name

-- the first place that has the name that is referred to, in the symbol space of its kind
abbrev pub place_of : SymbolSpaces → Reference → Option ℕ
place_of spaces (ToElement name) = first_place spaces.elements name
place_of spaces (ToAttribute name) = first_place spaces.attributes name
place_of spaces (ToType name) = first_place spaces.types name
place_of spaces (ToSimpleType name) = first_place spaces.types name
place_of spaces ToAnyTypeAsSimple = None
place_of spaces (ToGroup name) = first_place spaces.groups name
place_of spaces (ToAttributeGroup name) = first_place spaces.attr_groups name
place_of spaces (ToKey name) = first_place spaces.constraints name
