-- Where a type stands above those that it refers to.
use Rattle.std.specs.Prelude.{ℕ, ◌+◌, ◌<◌, length, slice_index}
use Rattle.xs_codes.specs.declared.builtin.Builtin.{Builtin as Built}
use Rattle.xs_codes.specs.declared.builtin.Builtin.TheVariants as built
use Rattle.xs_components.specs.Tables.{Tables}
use Rattle.xs_components.specs.declared.common.TypeId.{TypeId}
use Rattle.xs_components.specs.declared.common.TypeId.TheVariants.{AnyType, Builtin, Simple, Complex}

-- The place of a built-in type below anySimpleType (Datatypes 3): a type derived from another, or a list of it, is higher.
abbrev pub builtin_height : Built → ℕ
builtin_height built.AnySimpleType = 1
builtin_height built.NormalizedString = 3
builtin_height built.Integer = 3
builtin_height built.Token = 4
builtin_height built.Long = 4
builtin_height built.NonPositiveInteger = 4
builtin_height built.NonNegativeInteger = 4
builtin_height built.Language = 5
builtin_height built.Name = 5
builtin_height built.NmToken = 5
builtin_height built.Int = 5
builtin_height built.NegativeInteger = 5
builtin_height built.PositiveInteger = 5
builtin_height built.UnsignedLong = 5
builtin_height built.NmTokens = 6
builtin_height built.NcName = 6
builtin_height built.Short = 6
builtin_height built.UnsignedInt = 6
builtin_height built.Id = 7
builtin_height built.IdRef = 7
builtin_height built.Byte = 7
builtin_height built.UnsignedShort = 7
builtin_height built.IdRefs = 8
builtin_height built.UnsignedByte = 8
builtin_height _ = 2

-- the height of the first rank: all built-in types are below it
abbrev pub first_height : ℕ
first_height = 9

-- The height of a type above anyType. That of a type of the tables is by its rank, above all built-in ones.
abbrev pub type_height : Tables → TypeId → ℕ
type_height t AnyType = 0
type_height t (Builtin b) = builtin_height b
type_height t (Simple id) = first_height + slice_index t.simples.ranks id
type_height t (Complex id) = first_height + slice_index t.complexes.ranks id

-- the type is there
abbrev pub IsType : Tables → TypeId → Type 0
IsType t AnyType = Unit {0}
IsType t (Builtin b) = Unit {0}
IsType t (Simple id) = id < length t.simples.parts
IsType t (Complex id) = id < length t.complexes.parts

-- a type that is there, below this height
pub record IsLower (t : Tables) (height : ℕ) (of : TypeId) : Type 0 where
  pub there : IsType t of
  pub lower : type_height t of < height
