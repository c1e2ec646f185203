-- The built-in types, their names and the types that they are derived from: Datatypes 3, Structures 3.14.7.
use Rattle.std.specs.Prelude.{ℕ, zero, suc, Bool, true, false, ◌&&◌, is_none, if◌then◌else◌, List, [], ◌∷◌, Option, None, Some, codes, bytes_eq, find}
use Rattle.xs_codes.specs.declared.builtin.Builtin.{Builtin}
use Rattle.xs_codes.specs.declared.builtin.Builtin.TheVariants as types
use Rattle.simple_values.specs.Grammar.{item_type}

-- the names, in the namespace of XML Schema
abbrev pub name_of : Builtin → List ℕ
name_of types.String = codes "string"
name_of types.NormalizedString = codes "normalizedString"
name_of types.Token = codes "token"
name_of types.AnyUri = codes "anyURI"
name_of types.AnySimpleType = codes "anySimpleType"
name_of types.Language = codes "language"
name_of types.Name = codes "Name"
name_of types.NmToken = codes "NMTOKEN"
name_of types.NcName = codes "NCName"
name_of types.Id = codes "ID"
name_of types.IdRef = codes "IDREF"
name_of types.NmTokens = codes "NMTOKENS"
name_of types.IdRefs = codes "IDREFS"
name_of types.QName = codes "QName"
name_of types.Boolean = codes "boolean"
name_of types.Decimal = codes "decimal"
name_of types.Integer = codes "integer"
name_of types.Byte = codes "byte"
name_of types.Short = codes "short"
name_of types.Int = codes "int"
name_of types.Long = codes "long"
name_of types.UnsignedByte = codes "unsignedByte"
name_of types.UnsignedShort = codes "unsignedShort"
name_of types.UnsignedInt = codes "unsignedInt"
name_of types.UnsignedLong = codes "unsignedLong"
name_of types.NonPositiveInteger = codes "nonPositiveInteger"
name_of types.NegativeInteger = codes "negativeInteger"
name_of types.NonNegativeInteger = codes "nonNegativeInteger"
name_of types.PositiveInteger = codes "positiveInteger"
name_of types.HexBinary = codes "hexBinary"
name_of types.Base64Binary = codes "base64Binary"
name_of types.DateTime = codes "dateTime"
name_of types.Date = codes "date"
name_of types.Time = codes "time"
name_of types.GYearMonth = codes "gYearMonth"
name_of types.GYear = codes "gYear"
name_of types.GMonthDay = codes "gMonthDay"
name_of types.GDay = codes "gDay"
name_of types.GMonth = codes "gMonth"
name_of types.Duration = codes "duration"

-- 3, the figure of the built-in types: the type that each is derived from
abbrev pub base_of : Builtin → Option Builtin
base_of types.AnySimpleType = None
base_of types.NormalizedString = Some types.String
base_of types.Token = Some types.NormalizedString
base_of types.Language = Some types.Token
base_of types.Name = Some types.Token
base_of types.NmToken = Some types.Token
base_of types.NcName = Some types.Name
base_of types.Id = Some types.NcName
base_of types.IdRef = Some types.NcName
base_of types.Integer = Some types.Decimal
base_of types.Byte = Some types.Short
base_of types.Short = Some types.Int
base_of types.Int = Some types.Long
base_of types.Long = Some types.Integer
base_of types.UnsignedByte = Some types.UnsignedShort
base_of types.UnsignedShort = Some types.UnsignedInt
base_of types.UnsignedInt = Some types.UnsignedLong
base_of types.UnsignedLong = Some types.NonNegativeInteger
base_of types.NonPositiveInteger = Some types.Integer
base_of types.NegativeInteger = Some types.NonPositiveInteger
base_of types.NonNegativeInteger = Some types.Integer
base_of types.PositiveInteger = Some types.NonNegativeInteger
base_of _ = Some types.AnySimpleType

-- 2.5.2: the primitive types are derived from anySimpleType, and are no lists
abbrev pub is_below_all : Option Builtin → Bool
is_below_all (Some types.AnySimpleType) = true
is_below_all _ = false

abbrev pub is_primitive : Builtin → Bool
is_primitive kind = is_below_all (base_of kind) && is_none (item_type kind)

-- the first primitive type on the way up, of so many steps at most
abbrev pub primitive_above : ℕ → Option Builtin → Option Builtin
primitive_above zero kind = None
primitive_above (suc steps) None = None
primitive_above (suc steps) (Some kind) = if is_primitive kind then Some kind else primitive_above steps (base_of kind)

-- 2.5.2: the primitive type that a type is, or is derived from; no type is eight steps below anySimpleType
abbrev pub primitive_of : Builtin → Option Builtin
primitive_of kind = primitive_above 8 (Some kind)

-- all of them
abbrev pub every : List Builtin
every = types.String ∷ types.NormalizedString ∷ types.Token ∷ types.AnyUri ∷ types.AnySimpleType ∷ types.Language ∷ types.Name ∷ types.NmToken ∷ types.NcName ∷ types.Id ∷ types.IdRef ∷ types.NmTokens ∷ types.IdRefs ∷ types.QName ∷ types.Boolean ∷ types.Decimal ∷ types.Integer ∷ types.Byte ∷ types.Short ∷ types.Int ∷ types.Long ∷ types.UnsignedByte ∷ types.UnsignedShort ∷ types.UnsignedInt ∷ types.UnsignedLong ∷ types.NonPositiveInteger ∷ types.NegativeInteger ∷ types.NonNegativeInteger ∷ types.PositiveInteger ∷ types.HexBinary ∷ types.Base64Binary ∷ types.DateTime ∷ types.Date ∷ types.Time ∷ types.GYearMonth ∷ types.GYear ∷ types.GMonthDay ∷ types.GDay ∷ types.GMonth ∷ types.Duration ∷ []

abbrev pub named : List ℕ → Option Builtin
named name = find (λ kind. bytes_eq (name_of kind) name) every
