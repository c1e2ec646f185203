-- The names that representations declare or refer to.
use Rattle.std.specs.Prelude.{ℕ, ◌<◌, List, [], ◌∷◌, ◌++◌, Option, None, Some, All, length}
use Rattle.std.specs.List.{flat_map}
use Rattle.xs_names.specs.Names.{NameTable}
use Rattle.representations.specs.declared.parts.Represented.{Represented}
use Rattle.representations.specs.declared.parts.Represented.TheVariants as forms
use Rattle.representations.specs.declared.parts.Representation.{Representation}
use Rattle.representations.specs.declared.parts.TypeName.{TypeName}
use Rattle.representations.specs.declared.parts.TypeName.TheVariants as types

abbrev pub given_name : Option ℕ → List ℕ
given_name None = []
given_name (Some name) = name ∷ []

-- anyType and the built-in types have no number
abbrev pub type_name : TypeName → List ℕ
type_name types.AnyType = []
type_name (types.Builtin of) = []
type_name (types.Named name) = name ∷ []

abbrev pub given_type : Option TypeName → List ℕ
given_type None = []
given_type (Some of) = type_name of

-- the names of a representation: its own, and those that it refers to
abbrev pub names_of : Represented → List ℕ
names_of (forms.Element element) = given_name element.name ++ (given_name element.reference ++ (given_type element.of ++ given_name element.head))
names_of (forms.Attribute attribute) = given_name attribute.name ++ (given_name attribute.reference ++ given_type attribute.of)
names_of (forms.ComplexType head) = given_name head.name
names_of (forms.SimpleType name finals) = given_name name
names_of (forms.Restriction base) = given_type base
names_of (forms.ItemType of) = given_type of
names_of (forms.Union members) = flat_map type_name members
names_of (forms.Derivation by_extension base) = given_type base
names_of (forms.Group name) = name ∷ []
names_of (forms.AttributeGroup name) = name ∷ []
names_of (forms.GroupReference to) = given_name to
names_of (forms.AttributeGroupReference to) = given_name to
names_of (forms.Unique name) = name ∷ []
names_of (forms.Key name) = name ∷ []
names_of (forms.Keyref name refer) = name ∷ given_name refer
names_of _ = []

-- each is in the table
abbrev pub AreIn : NameTable → List ℕ → Type 0
AreIn table names = All (λ name. name < length table.names) names

abbrev pub AreNamed : NameTable → List Representation → Type 0
AreNamed table reps = All (λ rep. AreIn table (names_of rep.form)) reps
