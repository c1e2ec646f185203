-- What the constraints on an element ask of it, and of what governs it.
use Rattle.std.specs.Prelude.{ℕ, Bool, true, false, not, ◌&&◌, ◌||◌, ◌==◌, List, Option, None, Some, is_some, slice_get, length, bytes_eq, codes}
use Rattle.std.specs.Option.{option_and_then}
use Rattle.xs_names.specs.WhiteSpace.{collapsed}
use Rattle.xs_components.specs.Tables.{Tables}
use Rattle.xs_components.specs.declared.common.TypeId.{TypeId}
use Rattle.xs_components.specs.declared.common.ValueConstraint.{ValueConstraint}
use Rattle.xs_components.specs.declared.element.ElementDecl.{ElementDecl}
use Rattle.assess_records.specs.declared.counts.ChildCounts.{ChildCounts}
use Rattle.assess_records.specs.declared.shape.ElementShape.{ElementShape}
use Rattle.component_tables.specs.ContentTypes.{content_of}
use Rattle.component_tables.specs.declared.content_types.ContentType.{ContentType}
use Rattle.elem_governing.specs.declared.pairs.Governing.{Governing}
use Rattle.elem_governing.specs.declared.pairs.Mode.{Mode}
use Rattle.elem_governing.specs.declared.pairs.Mode.TheVariants.{Strict, Lax, Skip}
use Rattle.elem_governing.specs.declared.local_types.XsiType.{XsiType}
use Rattle.elem_governing.specs.declared.local_types.XsiType.TheVariants.{Absent, NotQName, Unresolved, NotDerived, Governs}

-- ---- what governs

-- the element declaration that governs, if there is one
abbrev pub declaration_of : Tables → Governing → Option ElementDecl
declaration_of t g = option_and_then (slice_get t.elements.parts) g.declaration

-- its value constraint (Structures 3.3.1)
abbrev pub constraint_of : Option ElementDecl → Option ValueConstraint
constraint_of None = None
constraint_of (Some decl) = decl.value

abbrev pub is_fixed : Option ValueConstraint → Bool
is_fixed None = false
is_fixed (Some constraint) = constraint.fixed

-- the content type of the governing type, if one governs
abbrev pub governing_content : Tables → Option TypeId → Option ContentType
governing_content t None = None
governing_content t (Some of) = Some (content_of t of)

abbrev pub is_strict : Mode → Bool
is_strict Strict = true
is_strict Lax = false
is_strict Skip = false

abbrev pub is_skipped : Mode → Bool
is_skipped Strict = false
is_skipped Lax = false
is_skipped Skip = true

-- xsi:type names the governing type
abbrev pub governs : XsiType → Bool
governs Absent = false
governs NotQName = false
governs Unresolved = false
governs NotDerived = false
governs (Governs of) = true

-- An element is strictly assessed where it has a declaration, or a type from xsi:type (Structures 5.2).
abbrev pub is_strictly_assessed : Governing → XsiType → Bool
is_strictly_assessed g said = is_some g.declaration || (not (is_skipped g.mode) && governs said)

-- ---- what the element has

abbrev pub has_children : ChildCounts → Bool
has_children counts = not (counts.valid == 0) || (not (counts.invalid == 0) || not (counts.not_known == 0))

-- it has child elements
abbrev pub has_elements : ElementShape → Bool
has_elements shape = has_children shape.counts

-- neither child elements nor characters
abbrev pub is_bare : ElementShape → Bool
is_bare shape = not (has_elements shape) && (length shape.text == 0)

-- ---- nil (Structures 2.6.2, 3.3.4)

-- the value of a text as a boolean is true (Datatypes 3.2.2)
abbrev pub is_true : List ℕ → Bool
is_true text = bytes_eq (collapsed text) (codes "true") || bytes_eq (collapsed text) (codes "1")

abbrev pub says_nil : Option (List ℕ) → Bool
says_nil None = false
says_nil (Some text) = is_true text

abbrev pub is_nillable : Option ElementDecl → Bool
is_nillable None = false
is_nillable (Some decl) = decl.nillable

-- The element is nil: xsi:nil is true, and the declaration nillable.
abbrev pub is_nil : Option ElementDecl → Option (List ℕ) → Bool
is_nil decl xsi = is_nillable decl && says_nil xsi

-- ---- value constraints

-- The text of the value constraint is taken where the element has neither child elements nor characters and is not nil (Structures
-- 3.3.4, cvc-elt.5.1).
abbrev pub is_taken : Bool → Option ValueConstraint → ElementShape → Bool
is_taken nil constraint shape = is_some constraint && (not nil && is_bare shape)
