-- What the attribute xsi:type of an element says (Structures 2.6.1, 3.3.4).
use Rattle.std.specs.Prelude.{ℕ, ◌||◌, List, false, Bool, true, Option, None, Some, slice_get, if◌then◌else◌}
use Rattle.std.specs.Option.{option_map, option_and_then}
use Rattle.xs_names.specs.Names.{NameTable}
use Rattle.xs_names.specs.QName.{qname}
use Rattle.xs_names.specs.Scope.{resolved}
use Rattle.xs_names.specs.WhiteSpace.{collapsed}
use Rattle.xs_components.specs.Tables.{Tables}
use Rattle.xs_components.specs.declared.common.Methods.{Methods}
use Rattle.xs_components.specs.declared.common.TypeId.{TypeId}
use Rattle.xs_components.specs.declared.common.TypeId.TheVariants.{AnyType, Builtin, Simple, Complex}
use Rattle.xs_components.specs.declared.complex.ComplexType.{ComplexType}
use Rattle.xs_components.specs.declared.element.ElementDecl.{ElementDecl}
use Rattle.component_tables.specs.Types.{type_of}
use Rattle.component_tables.specs.Named.{named_type}
use Rattle.elem_governing.specs.Derived.{derives}
use Rattle.elem_governing.specs.declared.local_types.XsiType.{XsiType}
use Rattle.elem_governing.specs.declared.local_types.XsiType.TheVariants.{Absent, NotQName, Unresolved, NotDerived, Governs}

abbrev pub in_scope : List (List ℕ × ℕ) → Option (List ℕ) × List ℕ → Option (ℕ × List ℕ)
in_scope scope parts = option_map (λ space. (space, parts.1)) (resolved scope parts.0)

-- The value of a text as a QName, its white space collapsed (Datatypes 3.2.18): the number of the namespace, and the local part. A
-- prefix is bound, and a name without one is in the default namespace.
abbrev pub name_of_text : List (List ℕ × ℕ) → List ℕ → Option (ℕ × List ℕ)
name_of_text scope text = option_and_then (in_scope scope) (qname text)

abbrev pub qname_value : List (List ℕ × ℕ) → List ℕ → Option (ℕ × List ℕ)
qname_value scope text = name_of_text scope (collapsed text)

abbrev pub no_methods : Methods
no_methods = record { extension = false; restriction = false; substitution = false; by_list = false; by_union = false }

-- the methods of two sets
abbrev pub both : Methods → Methods → Methods
both a b = record {
  extension = a.extension || b.extension;
  restriction = a.restriction || b.restriction;
  substitution = a.substitution || b.substitution;
  by_list = a.by_list || b.by_list;
  by_union = a.by_union || b.by_union;
}

abbrev pub complex_blocks : Option ComplexType → Methods
complex_blocks None = no_methods
complex_blocks (Some part) = part.blocks

-- the {prohibited substitutions} of a type (Structures 3.4.1); a simple type has none
abbrev pub type_blocks : Tables → TypeId → Methods
type_blocks t AnyType = no_methods
type_blocks t (Builtin b) = no_methods
type_blocks t (Simple id) = no_methods
type_blocks t (Complex id) = complex_blocks (slice_get t.complexes.parts id)

-- the {disallowed substitutions} of a declaration (Structures 3.3.1)
abbrev pub declaration_blocks : Option ElementDecl → Methods
declaration_blocks None = no_methods
declaration_blocks (Some part) = part.blocks

-- the methods by which no type may stand for the declared one
abbrev pub blocked : Tables → ℕ → Methods
blocked t element = both (declaration_blocks (slice_get t.elements.parts element)) (type_blocks t (type_of t element))

-- cvc-elt.4.3 (Structures 3.3.4): a type that is named by xsi:type derives from the type of the declaration, if there is one, without
-- the methods in the declaration's block and in that type's block.
abbrev pub may_govern : Tables → Option ℕ → TypeId → Bool
may_govern t None of = true
may_govern t (Some element) of = derives t (blocked t element) of (type_of t element)

abbrev pub said_of : Bool → TypeId → XsiType
said_of governs of = if governs then Governs of else NotDerived

abbrev pub by_type : Tables → Option ℕ → Option TypeId → XsiType
by_type t declaration None = Unresolved
by_type t declaration (Some of) = said_of (may_govern t declaration of) of

-- cvc-elt.4.2 (Structures 3.3.4): the name resolves to a type.
abbrev pub by_name : NameTable → Tables → Option ℕ → Option (ℕ × List ℕ) → XsiType
by_name names t declaration None = NotQName
by_name names t declaration (Some name) = by_type t declaration (named_type names t name.0 name.1)

-- cvc-elt.4.1 (Structures 3.3.4): xsi:type is a QName. What it says on an element with this declaration, if any, in this scope.
abbrev pub xsi_type : NameTable → Tables → Option ℕ → Option (List ℕ) → List (List ℕ × ℕ) → XsiType
xsi_type names t declaration None scope = Absent
xsi_type names t declaration (Some text) scope = by_name names t declaration (qname_value scope text)
