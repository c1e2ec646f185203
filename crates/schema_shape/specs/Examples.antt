-- Small schema documents.
use Rattle.std.specs.Prelude.{◌≡◌, ℕ, List, [], ◌∷◌, None, Some, codes}
use Rattle.std.specs.Str.{chars}
use Rattle.std.proofs.Common.{refl}
use Rattle.tree_rows.specs.Forest.{Forest, none, element}
use Rattle.tree_rows.specs.declared.name.Expanded.{Expanded}
use Rattle.tree_rows.specs.declared.row.Attribute.{Attribute}
use Rattle.xs_codes.specs.declared.code.Code.TheVariants.{XShapeRoot, XShapeAttribute, XShapeValue, PPropsCorrect2_1}
use Rattle.schema_values.specs.GrammarNames.{schema_namespace}
use Rattle.schema_faults.specs.Faults.{least_fault, code_of, first_code, shape_tests, unsupported_tests, limit_tests, element_tests, attribute_tests, simple_tests}
use Rattle.schema_shape.specs.Shaped.{constructs_of}

abbrev xs : ℕ → List ℕ → List Attribute → Forest → Forest → Forest
xs number local attributes children next = element number (record { namespace = Some schema_namespace; local = local }) [] attributes children next

abbrev with : List ℕ → List ℕ → Attribute
with name value = record { name = record { namespace = None; local = name }; value = value }

-- <element name="a"/>
example-root : least_fault (constructs_of (xs 1 (codes "element") (with (codes "name") (codes "a") ∷ []) none none)) ≡ Some (record { item = 1; code = XShapeRoot })
unfolding code_of first_code shape_tests unsupported_tests limit_tests element_tests attribute_tests simple_tests chars
example-root = refl

-- <schema><element/><element name="a" type="xml:b"><complexType/></element></schema>: the least element, though a later one has a fault too
example-least : least_fault (constructs_of (xs 1 (codes "schema") [] (xs 2 (codes "element") [] none (xs 3 (codes "element")
    (with (codes "name") (codes "a") ∷ with (codes "type") (codes "xml:b") ∷ []) (xs 4 (codes "complexType") [] none none) none)) none))
    ≡ Some (record { item = 2; code = XShapeAttribute })
unfolding code_of first_code shape_tests unsupported_tests limit_tests element_tests attribute_tests simple_tests chars
example-least = refl

-- <schema><element name="a" type="q:b"><complexType/></element></schema>: of two codes the first in the order
example-first : least_fault (constructs_of (xs 1 (codes "schema") [] (xs 2 (codes "element")
    (with (codes "name") (codes "a") ∷ with (codes "type") (codes "q:b") ∷ []) (xs 3 (codes "complexType") [] none none) none) none))
    ≡ Some (record { item = 2; code = XShapeValue })
unfolding code_of first_code shape_tests unsupported_tests limit_tests element_tests attribute_tests simple_tests chars
example-first = refl

-- <schema><group name="g"><sequence><sequence minOccurs="2"/></sequence></group></schema>
example-bounds : least_fault (constructs_of (xs 1 (codes "schema") [] (xs 2 (codes "group") (with (codes "name") (codes "g") ∷ [])
    (xs 3 (codes "sequence") [] (xs 4 (codes "sequence") (with (codes "minOccurs") (codes "2") ∷ []) none none) none) none) none))
    ≡ Some (record { item = 4; code = PPropsCorrect2_1 })
unfolding code_of first_code shape_tests unsupported_tests limit_tests element_tests attribute_tests simple_tests chars
example-bounds = refl

-- <schema><element name=" a "/></schema>
example-fine : least_fault (constructs_of (xs 1 (codes "schema") [] (xs 2 (codes "element") (with (codes "name") (codes " a ") ∷ []) none none) none)) ≡ None
unfolding code_of first_code shape_tests unsupported_tests limit_tests element_tests attribute_tests simple_tests chars
example-fine = refl
