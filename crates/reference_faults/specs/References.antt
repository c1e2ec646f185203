-- The references that stand in an element of a schema document.
use Rattle.std.specs.Prelude.{ℕ, List, [], ◌∷◌, ◌++◌, Option, None, Some}
use Rattle.std.specs.List.{flat_map}
use Rattle.representations.specs.declared.parts.ElementRepresentation.{ElementRepresentation}
use Rattle.representations.specs.declared.parts.AttributeRepresentation.{AttributeRepresentation}
use Rattle.representations.specs.declared.parts.Represented.{Represented}
use Rattle.representations.specs.declared.parts.Represented.TheVariants as forms
use Rattle.representations.specs.declared.parts.TypeName.{TypeName}
use Rattle.representations.specs.declared.parts.TypeName.TheVariants as names
use Rattle.reference_faults.specs.declared.reference.Reference.{Reference}
use Rattle.reference_faults.specs.declared.reference.Reference.TheVariants.{ToElement, ToAttribute, ToType, ToSimpleType, ToAnyTypeAsSimple, ToGroup, ToAttributeGroup, ToKey}

abbrev pub one_or_none : (ℕ → Reference) → Option ℕ → List Reference
one_or_none to None = []
one_or_none to (Some name) = to name ∷ []

-- anyType and built-in types are always there
abbrev pub named_type : Option TypeName → Option ℕ
named_type None = None
named_type (Some names.AnyType) = None
named_type (Some (names.Builtin of)) = None
named_type (Some (names.Named name)) = Some name

-- where a simple type is needed; anyType is none
abbrev pub simple_references : TypeName → List Reference
simple_references names.AnyType = ToAnyTypeAsSimple ∷ []
simple_references (names.Builtin of) = []
simple_references (names.Named name) = ToSimpleType name ∷ []

abbrev pub simple_references_if : Option TypeName → List Reference
simple_references_if None = []
simple_references_if (Some of) = simple_references of

-- to another element, to the head of the substitution group, to the type
abbrev pub element_references : ElementRepresentation → List Reference
element_references element = one_or_none ToElement element.reference ++ (one_or_none ToElement element.head ++ one_or_none ToType (named_type element.of))

abbrev pub attribute_references : AttributeRepresentation → List Reference
attribute_references attribute = one_or_none ToAttribute attribute.reference ++ simple_references_if attribute.of

-- each with the kind of component that is needed: attributes, lists, unions and restrictions of simple types need simple types,
-- a keyref needs a key or a unique
abbrev pub references : Represented → List Reference
references (forms.Element element) = element_references element
references (forms.Attribute attribute) = attribute_references attribute
references (forms.Restriction base) = simple_references_if base
references (forms.ItemType of) = simple_references_if of
references (forms.Union members) = flat_map simple_references members
references (forms.Derivation by_extension base) = one_or_none ToType (named_type base)
references (forms.GroupReference to) = one_or_none ToGroup to
references (forms.AttributeGroupReference to) = one_or_none ToAttributeGroup to
references (forms.Keyref name refer) = one_or_none ToKey refer
references _ = []

-- the name that is referred to, where it is not anyType's
abbrev pub name_of : Reference → Option ℕ
name_of (ToElement name) = Some name
name_of (ToAttribute name) = Some name
name_of (ToType name) = Some name
name_of (ToSimpleType name) = Some name
name_of ToAnyTypeAsSimple = None
name_of (ToGroup name) = Some name
name_of (ToAttributeGroup name) = Some name
name_of (ToKey name) = Some name
