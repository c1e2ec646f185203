-- What representations say, but for the names of types, groups and attribute groups.
use Rattle.std.specs.Prelude.{ℕ, List, None, map}
use Rattle.std.specs.Option.{option_map}
use Rattle.representations.specs.declared.parts.Represented.{Represented}
use Rattle.representations.specs.declared.parts.Represented.TheVariants as forms
use Rattle.representations.specs.declared.parts.Representation.{Representation}
use Rattle.representations.specs.declared.parts.TypeName.{TypeName}
use Rattle.representations.specs.declared.parts.TypeName.TheVariants as types

-- a name, whichever
abbrev pub some_name : ℕ → ℕ
some_name name = 0

abbrev pub some_type : TypeName → TypeName
some_type types.AnyType = types.AnyType
some_type (types.Builtin of) = types.Builtin of
some_type (types.Named name) = types.Named 0

-- a form without what types, groups and attribute groups are called, and without which of them it refers to
abbrev pub unnamed : Represented → Represented
unnamed (forms.Element element) = forms.Element (record element { of = option_map some_type element.of })
unnamed (forms.Attribute attribute) = forms.Attribute (record attribute { of = option_map some_type attribute.of })
unnamed (forms.ComplexType head) = forms.ComplexType (record head { name = None })
unnamed (forms.SimpleType name finals) = forms.SimpleType None finals
unnamed (forms.Restriction base) = forms.Restriction (option_map some_type base)
unnamed (forms.ItemType of) = forms.ItemType (option_map some_type of)
unnamed (forms.Union members) = forms.Union (map some_type members)
unnamed (forms.Derivation by_extension base) = forms.Derivation by_extension (option_map some_type base)
unnamed (forms.Group name) = forms.Group 0
unnamed (forms.AttributeGroup name) = forms.AttributeGroup 0
unnamed (forms.GroupReference to) = forms.GroupReference (option_map some_name to)
unnamed (forms.AttributeGroupReference to) = forms.AttributeGroupReference (option_map some_name to)
unnamed form = form

abbrev pub unnamed_rep : Representation → Representation
unnamed_rep rep = record rep { form = unnamed rep.form }

abbrev pub unnamed_reps : List Representation → List Representation
unnamed_reps reps = map unnamed_rep reps
