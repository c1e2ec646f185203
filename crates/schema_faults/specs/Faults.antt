-- The constraints on the shape of a schema document. Each is on one element: on what it is, its attributes, the bindings in
-- scope, and the names and texts of its children. Where a part is left undefined by a broken constraint, that constraint is
-- on the same element and comes before.
use Rattle.std.specs.Prelude.{ℕ, Bool, true, false, nat_lt, List, [], ◌∷◌, Option, Some, None, if◌then◌else◌}
use Rattle.std.specs.Option.{option_map, option_or}
use Rattle.tree_rows.specs.Forest.{Forest}
use Rattle.tree_rows.specs.declared.row.Attribute.{Attribute}
use Rattle.tree_rows.specs.declared.row.Binding.{Binding}
use Rattle.xs_codes.specs.declared.code.Code.{Code}
use Rattle.xs_codes.specs.declared.code.Code.TheVariants as code
use Rattle.schema_values.specs.declared.grammar_kinds.Kind.{Kind}
use Rattle.schema_values.specs.declared.grammar_kinds.Kind.TheVariants as k
use Rattle.schema_values.specs.declared.grammar_kinds.Tag.{Tag}
use Rattle.schema_values.specs.Occurrences.{is_past_limit, has_crossed_bounds}
use Rattle.schema_faults.specs.Children.{child_tags}
use Rattle.schema_faults.specs.Constructs.{Construct}
use Rattle.schema_faults.specs.Limits.{has_many_fields, has_large_number}
use Rattle.schema_faults.specs.Representation as r
use Rattle.schema_faults.specs.ShapeFaults.{is_no_schema, has_wrong_children, has_text, has_wrong_attribute, has_wrong_value}
use Rattle.schema_faults.specs.Unsupported as u
use Rattle.schema_faults.specs.declared.broken.Broken.{Broken}
use Rattle.schema_faults.specs.declared.unsupported.TypeNames.{TypeNames}

-- whether a constraint is broken, and its code
pub record Test : Type 0 where
  pub broken : Bool
  pub code : Code

abbrev test : Code → Bool → Test
test code broken = record { broken = broken; code = code }

-- the code of the first constraint that is broken
abbrev pub first_broken : List Test → Option Code
first_broken [] = None
first_broken (t ∷ tests) = if t.broken then Some t.code else first_broken tests

-- the constraints on one element, in their order, by groups
unfoldable pub shape_tests : Construct → List Test
shape_tests e =
    test code.XShapeRoot (is_no_schema e.kind)
    ∷ test code.XShapeContent (has_wrong_children e.kind (child_tags e.children))
    ∷ test code.XShapeText (has_text e.kind e.children)
    ∷ test code.XShapeAttribute (has_wrong_attribute e.kind e.attributes)
    ∷ test code.XShapeValue (has_wrong_value e.scope e.kind e.attributes)
    ∷ []

unfoldable pub unsupported_tests : TypeNames → List Test
unsupported_tests types =
    test code.XUnsupportedFloat (u.names_float types)
    ∷ test code.XUnsupportedDouble (u.names_double types)
    ∷ test code.XUnsupportedEntity (u.names_entity types)
    ∷ test code.XUnsupportedEntities (u.names_entities types)
    ∷ test code.XUnsupportedNotationType (u.names_notation_type types)
    ∷ []

unfoldable pub limit_tests : Kind → List Attribute → List Tag → List Test
limit_tests kind attributes tags =
    test code.XUnsupportedTarget (u.has_schema_target kind attributes)
    ∷ test code.XLimitOccurs (is_past_limit attributes)
    ∷ test code.XLimitFields (has_many_fields kind tags)
    ∷ test code.XLimitValue (has_large_number kind attributes)
    ∷ []

unfoldable pub element_tests : Kind → List Attribute → List Tag → List Test
element_tests kind attributes tags =
    test code.SrcElement1 (r.element_has_two_values kind attributes)
    ∷ test code.SrcElement2_1 (r.element_has_not_one_name kind attributes)
    ∷ test code.SrcElement2_2 (r.element_reference_has_more kind attributes tags)
    ∷ test code.SrcElement3 (r.element_has_two_types kind attributes tags)
    ∷ []

unfoldable pub attribute_tests : Kind → List Attribute → List Tag → List Test
attribute_tests kind attributes tags =
    test code.SrcAttribute1 (r.attribute_has_two_values kind attributes)
    ∷ test code.SrcAttribute2 (r.attribute_has_idle_default kind attributes)
    ∷ test code.SrcAttribute3_1 (r.attribute_has_not_one_name kind attributes)
    ∷ test code.SrcAttribute3_2 (r.attribute_reference_has_more kind attributes tags)
    ∷ test code.SrcAttribute4 (r.attribute_has_two_types kind attributes tags)
    ∷ []

unfoldable pub simple_tests : Kind → List Attribute → List Tag → List Test
simple_tests kind attributes tags =
    test code.SrcSimpleType2 (r.has_not_one_base kind attributes tags)
    ∷ test code.SrcSimpleType3 (r.has_not_one_item_type kind attributes tags)
    ∷ test code.SrcUnionMemberTypesOrSimpleTypes (r.has_no_member kind attributes tags)
    ∷ test code.PPropsCorrect2_1 (has_crossed_bounds attributes)
    ∷ []

-- the code of the first constraint that an element breaks: the groups in their order
unfoldable pub first_code : Construct → Option Code
first_code e =
    let tags = child_tags e.children in
    option_or (first_broken (shape_tests e))
    (option_or (first_broken (unsupported_tests (u.type_names e.scope e.attributes)))
    (option_or (first_broken (limit_tests e.kind e.attributes tags))
    (option_or (first_broken (element_tests e.kind e.attributes tags))
    (option_or (first_broken (attribute_tests e.kind e.attributes tags))
    (first_broken (simple_tests e.kind e.attributes tags))))))

abbrev pub is_ignored : Kind → Bool
is_ignored k.Ignored = true
is_ignored _ = false

-- what is below an annotation is ignored; a notation is not supported, whatever it holds
unfoldable pub code_of : Construct → Option Code
code_of e =
    if is_ignored e.kind then None
    else (if u.is_notation e.kind then Some code.XUnsupportedNotationElement else first_code e)

-- the fault of an element, by its number
abbrev pub fault_of : Construct → Option Broken
fault_of e = option_map (λ code. record { item = e.item; code = code }) (code_of e)

-- of two faults the one at the lesser element
abbrev pub lesser : Option Broken → Option Broken → Option Broken
lesser None other = other
lesser (Some fault) None = Some fault
lesser (Some fault) (Some other) = if nat_lt other.item fault.item then Some other else Some fault

-- the fault at the least element
abbrev pub least_fault : List Construct → Option Broken
least_fault [] = None
least_fault (e ∷ es) = lesser (fault_of e) (least_fault es)
