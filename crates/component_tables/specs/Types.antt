-- The types of element declarations, and the declarations that element terms give to names.
use Rattle.std.specs.Prelude.{◌≡◌, ℕ, suc, ◌==◌, ◌&&◌, Bool, false, List, [], ◌∷◌, Option, None, Some, length, slice_get, slice_index, slice_index_or, unwrap_or, if◌then◌else◌}
use Rattle.std.specs.Option.{option_or}
use Rattle.xs_components.specs.Tables.{Tables}
use Rattle.xs_components.specs.declared.element.ElementDecl.{ElementDecl}
use Rattle.xs_components.specs.declared.common.TypeId.{TypeId}
use Rattle.xs_components.specs.declared.common.TypeId.TheVariants.{AnyType}
use Rattle.component_references.specs.Descent.{along}
use Rattle.component_tables.specs.Bases.{BaseTable, AreLinesOf}

module _ (type : ℕ → TypeId) where
  abbrev pub head_type : Option ℕ → TypeId
  head_type None = AnyType
  head_type (Some head) = type head

  -- the type that is named, else that of the head, else anyType
  abbrev pub own_type : Option TypeId → Option ℕ → TypeId
  own_type None head = head_type head
  own_type (Some own) head = own

  abbrev pub declared_type : Option ElementDecl → TypeId
  declared_type None = AnyType
  declared_type (Some part) = own_type part.of part.head

  abbrev pub type_step : Tables → ℕ → TypeId
  type_step t element = declared_type (slice_get t.elements.parts element)

-- The type of an element declaration (Structures 3.3.2): its own, else that of the head of its substitution group, else anyType.
unfoldable pub type_of : Tables → ℕ → TypeId
type_of t element = along (slice_index t.elements.ranks) AnyType (λ type. type_step type t) element

-- a declaration of this number, where it stands at the top of a schema document and has the name
abbrev pub if_named : ElementDecl → ℕ → ℕ → Option ℕ
if_named part number name = if part.global && (part.name == name) then Some number else None

-- the first of these declarations, numbered from here on, that stands at the top and has the name
abbrev pub global_from : List ElementDecl → ℕ → ℕ → Option ℕ
global_from [] number name = None
global_from (part ∷ parts) number name = option_or (if_named part number name) (global_from parts (suc number) name)

-- the element declaration at the top of a schema document with this name
abbrev pub global_of : Tables → ℕ → Option ℕ
global_of t name = global_from t.elements.parts 0 name

-- the name of a declaration is this one
abbrev pub has_name : Option ElementDecl → ℕ → Bool
has_name None name = false
has_name (Some part) name = part.name == name

-- The declaration that an element term gives to a name that it accepts (Structures 3.3.6): its own for its own name, and for the
-- name of another member of its substitution group that member, which stands at the top of a schema document.
abbrev pub given_declaration : Tables → ℕ → ℕ → ℕ
given_declaration t element name =
    if has_name (slice_get t.elements.parts element) name then element else unwrap_or (global_of t name) element

-- types by the numbers of declarations, declarations at the top by the numbers of their names, and types along their bases
pub record DeclarationTable : Type 0 where
  pub types : List TypeId
  pub globals : List (Option ℕ)
  pub bases : BaseTable

-- the type in the place of a number
abbrev pub known : List TypeId → ℕ → TypeId
known types element = slice_index_or types element AnyType

-- these are the types of all element declarations of the tables, those that stand at the top, and all types along their bases
pub record AreDeclarationsOf (t : Tables) (d : DeclarationTable) : Type 0 where
  pub each : length d.types ≡ length t.elements.parts
  pub types : (element : ℕ) → known d.types element ≡ type_of t element
  pub globals : (name : ℕ) → slice_index_or d.globals name None ≡ global_of t name
  pub bases : AreLinesOf t d.bases
