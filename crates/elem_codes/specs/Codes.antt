-- The constraints on an element by itself that are broken (Structures 3.3.4, 3.4.4), each with its code, in order.
use Rattle.std.specs.Prelude.{ℕ, Bool, true, false, not, ◌&&◌, ◌||◌, ◌==◌, List, [], ◌∷◌, ◌++◌, map, Option, None, Some, is_some, is_none, slice_get, length, bytes_eq, if◌then◌else◌}
use Rattle.std.specs.List.{list_any}
use Rattle.xs_names.specs.Names.{NameTable}
use Rattle.xs_names.specs.White.{is_white}
use Rattle.xs_codes.specs.declared.code.Code.{Code}
use Rattle.xs_codes.specs.declared.code.Code.TheVariants.{CvcElt1, CvcElt2, CvcElt4_1, CvcElt4_2, CvcElt4_3, CvcType2, CvcElt3_1, CvcElt3_2_1, CvcElt3_2_2, CvcType3_1_1, CvcType3_1_2, CvcType3_1_3, CvcComplexType2_1, CvcComplexType2_2, CvcComplexType2_3, CvcComplexType2_4, CvcComplexType4, CvcElt5_2_2_1, CvcElt5_2_2_2}
use Rattle.xs_codes.specs.declared.fault.Found.{Found}
use Rattle.xs_components.specs.Tables.{Tables}
use Rattle.xs_components.specs.declared.common.TypeId.{TypeId}
use Rattle.xs_components.specs.declared.common.TypeId.TheVariants.{AnyType, Builtin, Simple, Complex}
use Rattle.xs_components.specs.declared.common.ValueConstraint.{ValueConstraint}
use Rattle.xs_components.specs.declared.complex.ComplexType.{ComplexType}
use Rattle.xs_components.specs.declared.element.ElementDecl.{ElementDecl}
use Rattle.assess_records.specs.declared.shape.ElementShape.{ElementShape}
use Rattle.assess_records.specs.declared.shape.NamedText.{NamedText}
use Rattle.assess_records.specs.Instance.{instance_attribute}
use Rattle.component_tables.specs.declared.content_types.ContentType.{ContentType}
use Rattle.component_tables.specs.declared.content_types.ContentType.TheVariants.{SimpleType, Empty, SimpleContent, ElementOnly, Mixed}
use Rattle.elem_governing.specs.declared.pairs.Governing.{Governing}
use Rattle.elem_governing.specs.declared.local_types.XsiType.{XsiType}
use Rattle.elem_governing.specs.declared.local_types.XsiType.TheVariants.{Absent, NotQName, Unresolved, NotDerived, Governs}
use Rattle.elem_codes.specs.Facts.{is_fixed, is_strict, is_skipped, governs, has_elements, is_bare, governing_content}
use Rattle.elem_codes.specs.Used.{text_used, fixed_value}
use Rattle.elem_codes.specs.declared.outcome.TextOutcome.{TextOutcome}
use Rattle.elem_codes.specs.declared.outcome.TextOutcome.TheVariants.{NotRead, Invalid, Valid}

abbrev pub found : Code → Found
found code = record { code = code; place = 0 }

-- the code, where the constraint is broken
abbrev pub code_if : Bool → Code → List Found
code_if broken code = if broken then found code ∷ [] else []

-- the code, if there is one
abbrev pub code_of : Option Code → List Found
code_of None = []
code_of (Some code) = found code ∷ []

-- ---- the declaration

-- cvc-elt.1 (Structures 3.3.4, 5.2): an element that is assessed strictly has no declaration, and no type from xsi:type.
abbrev pub is_undeclared : Governing → XsiType → Bool
is_undeclared g said = is_strict g.mode && (is_none g.declaration && not (governs said))

-- cvc-elt.2 (Structures 3.3.4): the declaration is abstract.
abbrev pub is_abstract : Option ElementDecl → Bool
is_abstract None = false
is_abstract (Some decl) = decl.is_abstract

abbrev pub declaration_codes : Governing → XsiType → Option ElementDecl → List Found
declaration_codes g said decl = code_if (is_undeclared g said) CvcElt1 ++ code_if (is_abstract decl) CvcElt2

-- ---- the governing type

-- cvc-elt.4.1 (Structures 3.3.4): xsi:type is no QName.
abbrev pub no_name_code : Code
no_name_code = CvcElt4_1

-- cvc-elt.4.2 (Structures 3.3.4): xsi:type names no type.
abbrev pub no_type_code : Code
no_type_code = CvcElt4_2

-- cvc-elt.4.3 (Structures 3.3.4): xsi:type names a type that does not derive from the declared one without the methods that are
-- blocked.
abbrev pub not_derived_code : Code
not_derived_code = CvcElt4_3

-- the code of what xsi:type says
abbrev pub said_code : XsiType → Option Code
said_code Absent = None
said_code NotQName = Some no_name_code
said_code Unresolved = Some no_type_code
said_code NotDerived = Some not_derived_code
said_code (Governs of) = None

-- on an element that is not skipped
abbrev pub said_unless_skipped : Governing → XsiType → Option Code
said_unless_skipped g said = if is_skipped g.mode then None else said_code said

abbrev pub is_abstract_part : Option ComplexType → Bool
is_abstract_part None = false
is_abstract_part (Some part) = part.is_abstract

abbrev pub is_abstract_complex : Tables → TypeId → Bool
is_abstract_complex t AnyType = false
is_abstract_complex t (Builtin kind) = false
is_abstract_complex t (Simple id) = false
is_abstract_complex t (Complex id) = is_abstract_part (slice_get t.complexes.parts id)

-- cvc-type.2 (Structures 3.3.4): the governing type is abstract.
abbrev pub is_abstract_type : Tables → Option TypeId → Bool
is_abstract_type t None = false
is_abstract_type t (Some of) = is_abstract_complex t of

abbrev pub type_codes : Tables → Governing → XsiType → List Found
type_codes t g said = code_of (said_unless_skipped g said) ++ code_if (is_abstract_type t g.of) CvcType2

-- ---- nil

-- cvc-elt.3.1 (Structures 3.3.4): the declaration is not nillable, and xsi:nil is there.
abbrev pub is_nil_refused : Option ElementDecl → Option (List ℕ) → Bool
is_nil_refused None xsi = false
is_nil_refused (Some decl) xsi = not decl.nillable && is_some xsi

-- cvc-elt.3.2.1 (Structures 3.3.4): the element is nil and has child elements or characters.
abbrev pub is_filled_nil : Bool → ElementShape → Bool
is_filled_nil nil shape = nil && not (is_bare shape)

-- cvc-elt.3.2.2 (Structures 3.3.4): the element is nil, and there is a fixed value.
abbrev pub is_fixed_nil : Bool → Option ValueConstraint → Bool
is_fixed_nil nil constraint = nil && is_fixed constraint

abbrev pub nil_codes : Option ElementDecl → Option ValueConstraint → Option (List ℕ) → Bool → ElementShape → List Found
nil_codes decl constraint xsi nil shape =
    code_if (is_nil_refused decl xsi) CvcElt3_1 ++ (code_if (is_filled_nil nil shape) CvcElt3_2_1 ++ code_if (is_fixed_nil nil constraint) CvcElt3_2_2)

-- ---- the content

-- an attribute that is none of those of schema instances
abbrev pub is_other_attribute : NameTable → NamedText → Bool
is_other_attribute names attr = is_none (instance_attribute names attr.name)

-- cvc-type.3.1.1 (Structures 3.3.4): an element of simple type has an attribute that is none of those of schema instances.
abbrev pub has_other_attributes : NameTable → List NamedText → Bool
has_other_attributes names attrs = list_any (is_other_attribute names) attrs

-- a code, and the one of the value behind it, where a text is not valid
abbrev pub text_codes : Code → TextOutcome → List Found
text_codes code NotRead = []
text_codes code (Invalid value_code) = found code ∷ found value_code ∷ []
text_codes code (Valid value met) = []

-- cvc-type.3.1.2 (Structures 3.3.4): an element of simple type has child elements.
abbrev pub has_elements_inside : Bool → ElementShape → Bool
has_elements_inside nil shape = not nil && has_elements shape

-- cvc-type.3.1.3 (Structures 3.3.4): an element of simple type has no child elements, and its text is not valid; the code of the value
-- follows.
abbrev pub simple_text_codes : TextOutcome → List Found
simple_text_codes outcome = text_codes CvcType3_1_3 outcome

abbrev pub simple_codes : NameTable → Bool → ElementShape → TextOutcome → List Found
simple_codes names nil shape outcome =
    code_if (has_other_attributes names shape.attrs) CvcType3_1_1 ++ (code_if (has_elements_inside nil shape) CvcType3_1_2 ++ simple_text_codes outcome)

-- cvc-complex-type.2.1 (Structures 3.4.4): the content is empty, and there are child elements or characters.
abbrev pub empty_codes : ElementShape → List ℕ → List Found
empty_codes shape text = code_if (has_elements shape || not (length text == 0)) CvcComplexType2_1

-- cvc-complex-type.2.2 (Structures 3.4.4): the content is simple, and there are child elements or the text is not valid; the code of
-- the value follows where there are no child elements.
abbrev pub simple_content_codes : ElementShape → TextOutcome → List Found
simple_content_codes shape outcome = code_if (has_elements shape) CvcComplexType2_2 ++ text_codes CvcComplexType2_2 outcome

-- cvc-complex-type.2.3 (Structures 3.4.4): the content is element-only, and there are characters other than white space.
abbrev pub character_codes : List ℕ → List Found
character_codes text = code_if (not (is_white text)) CvcComplexType2_3

-- the content, by the kind that the type has, and by the text that is used
abbrev pub content_codes : ContentType → ElementShape → List ℕ → TextOutcome → List Found
content_codes SimpleType shape text outcome = []
content_codes Empty shape text outcome = empty_codes shape text
content_codes SimpleContent shape text outcome = simple_content_codes shape outcome
content_codes ElementOnly shape text outcome = character_codes text
content_codes Mixed shape text outcome = []

-- cvc-complex-type.2.4 (Structures 3.4.4): the child elements get stuck in the content model, at this place.
abbrev pub stuck_codes : Option ℕ → List Found
stuck_codes None = []
stuck_codes (Some place) = record { code = CvcComplexType2_4; place = place } ∷ []

-- cvc-complex-type.4 (Structures 3.4.4): once for each required attribute that is missing.
abbrev pub missing_code : ℕ → Found
missing_code name = found CvcComplexType4

abbrev pub missing_codes : List ℕ → List Found
missing_codes missing = map missing_code missing

-- a nil element has no content to be judged
abbrev pub filled_codes : Bool → ContentType → ElementShape → List ℕ → TextOutcome → List Found
filled_codes nil content shape text outcome =
    if nil then [] else content_codes content shape text outcome ++ stuck_codes shape.stuck

abbrev pub complex_codes : Bool → ContentType → ElementShape → List ℕ → TextOutcome → List ℕ → List Found
complex_codes nil content shape text outcome missing = filled_codes nil content shape text outcome ++ missing_codes missing

abbrev pub by_content : NameTable → Bool → ContentType → ElementShape → List ℕ → TextOutcome → List ℕ → List Found
by_content names nil SimpleType shape text outcome missing = simple_codes names nil shape outcome
by_content names nil Empty shape text outcome missing = complex_codes nil Empty shape text outcome missing
by_content names nil SimpleContent shape text outcome missing = complex_codes nil SimpleContent shape text outcome missing
by_content names nil ElementOnly shape text outcome missing = complex_codes nil ElementOnly shape text outcome missing
by_content names nil Mixed shape text outcome missing = complex_codes nil Mixed shape text outcome missing

-- where a type governs
abbrev pub governed_codes : NameTable → Bool → Option ContentType → ElementShape → List ℕ → TextOutcome → List ℕ → List Found
governed_codes names nil None shape text outcome missing = []
governed_codes names nil (Some content) shape text outcome missing = by_content names nil content shape text outcome missing

-- ---- fixed values

abbrev pub is_mixed : Option ContentType → Bool
is_mixed None = false
is_mixed (Some SimpleType) = false
is_mixed (Some Empty) = false
is_mixed (Some SimpleContent) = false
is_mixed (Some ElementOnly) = false
is_mixed (Some Mixed) = true

-- cvc-elt.5.2.2.1 (Structures 3.3.4): the value is fixed, the content is mixed, and there are child elements.
abbrev pub has_elements_beside : Option ValueConstraint → ElementShape → Bool
has_elements_beside fixed shape = is_some fixed && has_elements shape

-- cvc-elt.5.2.2.2 (Structures 3.3.4): on mixed content the text is not the fixed one.
abbrev pub differs : Option ValueConstraint → List ℕ → Bool
differs None text = false
differs (Some constraint) text = not (bytes_eq text constraint.text)

-- cvc-elt.5.2.2.2 (Structures 3.3.4): a valid value is not the fixed one.
abbrev pub is_unmet : TextOutcome → Bool
is_unmet NotRead = false
is_unmet (Invalid code) = false
is_unmet (Valid value met) = not met

-- the codes of a fixed value that an element with mixed content has to have; one that takes the text of the constraint has it
abbrev pub mixed_codes : Option ValueConstraint → ElementShape → List Found
mixed_codes fixed shape =
    code_if (has_elements_beside fixed shape) CvcElt5_2_2_1 ++ code_if (differs fixed shape.text) CvcElt5_2_2_2

abbrev pub fixed_codes : Bool → Option ContentType → Option ValueConstraint → ElementShape → TextOutcome → List Found
fixed_codes nil content fixed shape outcome =
    (if is_mixed content && not nil then mixed_codes fixed shape else []) ++ code_if (is_unmet outcome) CvcElt5_2_2_2

-- ---- all of them

module _ (names : NameTable) (t : Tables) (g : Governing) (said : XsiType) (shape : ElementShape) (missing : List ℕ) (outcome : TextOutcome) where
  -- the codes of an element by itself, in order, by its declaration and the value constraint of this, by the text of xsi:nil, by
  -- whether it is nil and by whether it takes the text of the constraint
  abbrev pub local_codes : Option ElementDecl → Option ValueConstraint → Option (List ℕ) → Bool → Bool → List Found
  local_codes decl constraint xsi nil taken =
      declaration_codes g said decl ++
      (type_codes t g said ++
      (nil_codes decl constraint xsi nil shape ++
      (governed_codes names nil (governing_content t g.of) shape (text_used taken constraint shape) outcome missing ++
      fixed_codes nil (governing_content t g.of) (fixed_value taken constraint) shape outcome)))
