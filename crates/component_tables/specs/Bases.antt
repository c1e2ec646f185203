-- Types along their bases (Structures 3.4.1, 3.14.1), in runs. Each type of a run but the first is derived from the one before it, and
-- all of them are simple, or all complex.
use Rattle.std.specs.Prelude.{◌≡◌, ℕ, ◌≤◌, ◌<◌, ◌⊎◌, Bool, true, false, List, Option, None, Some, slice_get, slice_index_or, if◌then◌else◌}
use Rattle.xs_components.specs.Tables.{Tables}
use Rattle.xs_components.specs.declared.common.Methods.{Methods}
use Rattle.xs_components.specs.declared.common.TypeId.{TypeId}
use Rattle.xs_components.specs.declared.common.TypeId.TheVariants.{AnyType, Builtin, Simple, Complex}
use Rattle.xs_components.specs.declared.complex.ComplexType.{ComplexType}
use Rattle.xs_components.specs.declared.simple.SimpleForm.{SimpleForm}
use Rattle.xs_components.specs.declared.simple.SimpleForm.TheVariants.{Restrict, ListOf, UnionOf}
use Rattle.xs_components.specs.declared.simple.SimpleType.{SimpleType}
use Rattle.component_references.specs.Heights.{IsType}
use Rattle.component_tables.specs.declared.bases.BaseLine.{BaseLine}

-- the number of a simple type, and of a complex one
abbrev pub simple_number : TypeId → Option ℕ
simple_number AnyType = None
simple_number (Builtin b) = None
simple_number (Simple id) = Some id
simple_number (Complex id) = None

abbrev pub complex_number : TypeId → Option ℕ
complex_number AnyType = None
complex_number (Builtin b) = None
complex_number (Simple id) = None
complex_number (Complex id) = Some id

-- the simple type that a document defines and that a simple type restricts
abbrev pub restricted_number : SimpleForm → Option ℕ
restricted_number (Restrict base step) = simple_number base
restricted_number (ListOf item) = None
restricted_number (UnionOf members) = None

-- a type is derived from another of its kind, by extension or by restriction
pub data IsDerived (t : Tables) : TypeId → TypeId → Bool → Type 0 where
  simple : (id base : ℕ) (part : SimpleType) → slice_get t.simples.parts id ≡ Some part → restricted_number part.form ≡ Some base → IsDerived t (Simple id) (Simple base) false
  complex : (id base : ℕ) (part : ComplexType) → slice_get t.complexes.parts id ≡ Some part → complex_number part.base ≡ Some base → IsDerived t (Complex id) (Complex base) part.by_extension

-- lines of the simple types and of the complex types, by their numbers
pub record BaseTable : Type 0 where
  pub simples : List BaseLine
  pub complexes : List BaseLine

-- the line of a type that is a run by itself
abbrev pub alone : TypeId → BaseLine
alone of = record { first = of; rank = 0; extended = 0; restricted = 0; is_union = false }

-- the line of a type
abbrev pub line_at : BaseTable → TypeId → BaseLine
line_at b AnyType = alone AnyType
line_at b (Builtin kind) = alone (Builtin kind)
line_at b (Simple id) = slice_index_or b.simples id (alone (Simple id))
line_at b (Complex id) = slice_index_or b.complexes id (alone (Complex id))

-- no step of the run from the type of this line up to one of this rank is by one of the methods
abbrev pub IsFree : BaseLine → ℕ → Methods → Type 0
IsFree line rank excluded =
    ((excluded.extension ≡ false) ⊎ (line.extended ≤ rank)) × ((excluded.restriction ≡ false) ⊎ (line.restricted ≤ rank))

-- the line of the first type of a run
pub record Starts (of : TypeId) (line : BaseLine) : Type 0 where
  pub first : line.first ≡ of
  pub extended : line.extended ≡ 0
  pub restricted : line.restricted ≡ 0

-- The line of a type behind its base in a run. It has the rank of the nearest type of the run, from itself up, that is derived by
-- extension, and of the nearest that is derived by restriction.
pub record Follows (t : Tables) (base of : TypeId) (base_line line : BaseLine) : Type 0 where
  pub by_extension : Bool
  pub derived : IsDerived t of base by_extension
  pub first : line.first ≡ base_line.first
  pub lower : base_line.rank < line.rank
  pub extended : line.extended ≡ (if by_extension then line.rank else base_line.extended)
  pub restricted : line.restricted ≡ (if by_extension then base_line.restricted else line.rank)

module _ (t : Tables) (b : BaseTable) (next : TypeId → Option TypeId) where
  pub record GoesOn (of : TypeId) : Type 0 where
    pub base : TypeId
    pub is_next : next base ≡ Some of
    pub follows : Follows t base of (line_at b base) (line_at b of)

  -- a type is the first of a run, or the one that goes on behind its base
  abbrev pub IsInRun : TypeId → Type 0
  IsInRun of = Starts of (line_at b of) ⊎ GoesOn of

-- a union is marked, and a restriction of a marked type
abbrev pub IsMarked : BaseTable → SimpleForm → Bool → Type 0
IsMarked b (Restrict base step) mark = (id : ℕ) → simple_number base ≡ Some id → (line_at b (Simple id)).is_union ≡ true → mark ≡ true
IsMarked b (ListOf item) mark = Unit {0}
IsMarked b (UnionOf members) mark = mark ≡ true

-- The lines are those of all types of the tables, where at most one type goes on behind each.
pub record AreLinesOf (t : Tables) (b : BaseTable) : Type 0 where
  pub next : TypeId → Option TypeId
  pub runs : (of : TypeId) → IsType t of → IsInRun t b next of
  pub unions : (id : ℕ) (part : SimpleType) → slice_get t.simples.parts id ≡ Some part → IsMarked b part.form (line_at b (Simple id)).is_union
