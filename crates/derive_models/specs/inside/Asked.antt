-- What is found of unions, one simple type after another.
use Rattle.std.specs.Prelude.{◌≡◌, ℕ, ◌<◌, Bool, true, false, List, [], Option, None, IfSome, length, slice_index_or}
use Rattle.xs_components.specs.Tables.{Tables}
use Rattle.xs_components.specs.declared.common.TypeId.{TypeId}
use Rattle.xs_components.specs.declared.common.TypeId.TheVariants.{AnyType, Builtin, Simple, Complex}
use Rattle.component_tables.specs.Types.{type_of}
use Rattle.type_derivation.specs.Derives.{members_of}
use Rattle.type_derivation.specs.Within.{AreWithin, Marks}

-- the simple types that are types of the first elements are marked
pub record AreAsked (t : Tables) (count : ℕ) (asked : List Bool) : Type 0 where
  pub len : length asked ≡ length t.simples.parts
  pub each : (element id : ℕ) → element < count → type_of t element ≡ Simple id → slice_index_or asked id false ≡ true

-- what is found of a simple type
pub record IsUnionAt (t : Tables) (is_asked : Bool) (id : ℕ) (union : Option Marks) : Type 0 where
  pub none : is_asked ≡ true → union ≡ None → members_of t (Simple id) ≡ []
  pub within : IfSome union (λ marks. AreWithin t marks × (marks.base ≡ Simple id))

-- so the first simple types are looked at
pub record AreLooked (t : Tables) (asked : List Bool) (count : ℕ) (unions : List (Option Marks)) : Type 0 where
  pub len : length unions ≡ count
  pub each : (n : ℕ) → n < count → IsUnionAt t (slice_index_or asked n false) n (slice_index_or unions n None)

-- what is found of a type
abbrev pub marks_of : List (Option Marks) → TypeId → Option Marks
marks_of unions AnyType = None
marks_of unions (Builtin kind) = None
marks_of unions (Simple id) = slice_index_or unions id None
marks_of unions (Complex id) = None
