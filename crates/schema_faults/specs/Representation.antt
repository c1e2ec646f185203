-- Constraints on the representation of elements, attributes and simple types (Structures 3.2.3, 3.3.3, 3.14.3).
use Rattle.std.specs.Prelude.{ℕ, Bool, true, false, not, ◌&&◌, ◌||◌, ◌==◌, List, [], ◌∷◌, length, Option, Some, None, codes}
use Rattle.std.specs.List.{list_any}
use Rattle.std.specs.Option.{unwrap_or}
use Rattle.std.specs.Str.{bytes_eq}
use Rattle.xs_names.specs.WhiteSpace.{items}
use Rattle.tree_rows.specs.declared.row.Attribute.{Attribute}
use Rattle.schema_values.specs.Table.{is_in}
use Rattle.schema_values.specs.declared.grammar_kinds.AttributeName.{AttributeName}
use Rattle.schema_values.specs.declared.grammar_kinds.AttributeName.TheVariants as an
use Rattle.schema_values.specs.declared.grammar_kinds.Class.TheVariants as c
use Rattle.schema_values.specs.declared.grammar_kinds.Kind.{Kind}
use Rattle.schema_values.specs.declared.grammar_kinds.Kind.TheVariants as k
use Rattle.schema_values.specs.declared.grammar_kinds.Tag.{Tag}
use Rattle.schema_values.specs.Attributes.{has, value_of}

abbrev pub is_element : Kind → Bool
is_element k.TopElement = true
is_element k.LocalElement = true
is_element _ = false

abbrev pub is_local_element : Kind → Bool
is_local_element k.LocalElement = true
is_local_element _ = false

abbrev pub is_attribute : Kind → Bool
is_attribute k.TopAttribute = true
is_attribute k.LocalAttribute = true
is_attribute _ = false

abbrev pub is_local_attribute : Kind → Bool
is_local_attribute k.LocalAttribute = true
is_local_attribute _ = false

abbrev pub is_restriction : Kind → Bool
is_restriction k.Restriction = true
is_restriction _ = false

abbrev pub is_list : Kind → Bool
is_list k.List = true
is_list _ = false

abbrev pub is_union : Kind → Bool
is_union k.Union = true
is_union _ = false

-- both or neither
abbrev pub same : Bool → Bool → Bool
same true b = b
same false b = not b

-- one of these attributes is there
abbrev pub has_any : List AttributeName → List Attribute → Bool
has_any names attributes = list_any (λ name. has name attributes) names

-- a child other than an annotation
abbrev pub has_more_than_annotations : List Tag → Bool
has_more_than_annotations tags = list_any (λ tag. not (is_in c.Annotation tag)) tags

-- src-element.1 (Structures 3.3.3): default and fixed
abbrev pub element_has_two_values : Kind → List Attribute → Bool
element_has_two_values kind attributes = is_element kind && (has an.Default attributes && has an.Fixed attributes)

-- src-element.2.1 (Structures 3.3.3): a local element has not exactly one of name and ref
abbrev pub element_has_not_one_name : Kind → List Attribute → Bool
element_has_not_one_name kind attributes = is_local_element kind && same (has an.Name attributes) (has an.Ref attributes)

-- an attribute of the table other than ref, minOccurs, maxOccurs and id
abbrev pub has_more_than_reference : List Attribute → Bool
has_more_than_reference attributes =
    has_any (an.Name ∷ an.Type ∷ an.Default ∷ an.Fixed ∷ an.Nillable ∷ an.Block ∷ an.Form ∷ []) attributes

-- src-element.2.2 (Structures 3.3.3): with ref, an attribute other than minOccurs, maxOccurs and id, or a child other than an annotation
abbrev pub element_reference_has_more : Kind → List Attribute → List Tag → Bool
element_reference_has_more kind attributes tags =
    is_local_element kind && (has an.Ref attributes && (has_more_than_reference attributes || has_more_than_annotations tags))

-- src-element.3 (Structures 3.3.3): type and a type child
abbrev pub element_has_two_types : Kind → List Attribute → List Tag → Bool
element_has_two_types kind attributes tags = is_element kind && (has an.Type attributes && list_any (is_in c.Type) tags)

-- src-attribute.1 (Structures 3.2.3): default and fixed
abbrev pub attribute_has_two_values : Kind → List Attribute → Bool
attribute_has_two_values kind attributes = is_attribute kind && (has an.Default attributes && has an.Fixed attributes)

-- use is there, and is not optional
abbrev pub is_not_optional : Option (List ℕ) → Bool
is_not_optional None = false
is_not_optional (Some text) = not (bytes_eq text (codes "optional"))

abbrev pub use_is_not_optional : List Attribute → Bool
use_is_not_optional attributes = is_not_optional (value_of an.Use attributes)

-- src-attribute.2 (Structures 3.2.3): default, with use not optional
abbrev pub attribute_has_idle_default : Kind → List Attribute → Bool
attribute_has_idle_default kind attributes =
    is_attribute kind && (has an.Default attributes && use_is_not_optional attributes)

-- src-attribute.3.1 (Structures 3.2.3): a local attribute has not exactly one of name and ref
abbrev pub attribute_has_not_one_name : Kind → List Attribute → Bool
attribute_has_not_one_name kind attributes = is_local_attribute kind && same (has an.Name attributes) (has an.Ref attributes)

-- src-attribute.3.2 (Structures 3.2.3): ref with type, form or a simpleType child
abbrev pub attribute_reference_has_more : Kind → List Attribute → List Tag → Bool
attribute_reference_has_more kind attributes tags =
    is_local_attribute kind && (has an.Ref attributes
    && (has_any (an.Type ∷ an.Form ∷ []) attributes || list_any (is_in c.SimpleType) tags))

-- src-attribute.4 (Structures 3.2.3): type and a simpleType child
abbrev pub attribute_has_two_types : Kind → List Attribute → List Tag → Bool
attribute_has_two_types kind attributes tags = is_attribute kind && (has an.Type attributes && list_any (is_in c.SimpleType) tags)

-- src-simple-type.2 (Structures 3.14.3): a restriction has not exactly one of base and a simpleType child
abbrev pub has_not_one_base : Kind → List Attribute → List Tag → Bool
has_not_one_base kind attributes tags = is_restriction kind && same (has an.Base attributes) (list_any (is_in c.SimpleType) tags)

-- src-simple-type.3 (Structures 3.14.3): a list has not exactly one of itemType and a simpleType child
abbrev pub has_not_one_item_type : Kind → List Attribute → List Tag → Bool
has_not_one_item_type kind attributes tags = is_list kind && same (has an.ItemType attributes) (list_any (is_in c.SimpleType) tags)

-- memberTypes names no type
abbrev pub names_no_member : List Attribute → Bool
names_no_member attributes = length (items (unwrap_or (value_of an.MemberTypes attributes) [])) == 0

-- src-union-memberTypes-or-simpleTypes (Structures 3.14.3): a union has no member
abbrev pub has_no_member : Kind → List Attribute → List Tag → Bool
has_no_member kind attributes tags = is_union kind && (not (list_any (is_in c.SimpleType) tags) && names_no_member attributes)
