-- The built-in simple types by their local names (Datatypes 3; `anySimpleType` is of Structures 3.14.7).
use Rattle.std.specs.Prelude.{ℕ, List, [], ◌∷◌, Option, None, Some, if◌then◌else◌, bytes_eq, codes}
use Rattle.xs_codes.specs.declared.builtin.Builtin.{Builtin}
use Rattle.xs_codes.specs.declared.builtin.Builtin.TheVariants as types

-- the type beside the name, if the name is there
abbrev pub among : List (List ℕ × Builtin) → List ℕ → Option Builtin
among [] name = None
among (entry ∷ entries) name = if bytes_eq name entry.0 then Some entry.1 else among entries name

abbrev pub builtin_named : List ℕ → Option Builtin
builtin_named local =
    among
    ((codes "string", types.String)
    ∷ (codes "normalizedString", types.NormalizedString)
    ∷ (codes "token", types.Token)
    ∷ (codes "anyURI", types.AnyUri)
    ∷ (codes "anySimpleType", types.AnySimpleType)
    ∷ (codes "language", types.Language)
    ∷ (codes "Name", types.Name)
    ∷ (codes "NMTOKEN", types.NmToken)
    ∷ (codes "NCName", types.NcName)
    ∷ (codes "ID", types.Id)
    ∷ (codes "IDREF", types.IdRef)
    ∷ (codes "NMTOKENS", types.NmTokens)
    ∷ (codes "IDREFS", types.IdRefs)
    ∷ (codes "QName", types.QName)
    ∷ (codes "boolean", types.Boolean)
    ∷ (codes "decimal", types.Decimal)
    ∷ (codes "integer", types.Integer)
    ∷ (codes "byte", types.Byte)
    ∷ (codes "short", types.Short)
    ∷ (codes "int", types.Int)
    ∷ (codes "long", types.Long)
    ∷ (codes "unsignedByte", types.UnsignedByte)
    ∷ (codes "unsignedShort", types.UnsignedShort)
    ∷ (codes "unsignedInt", types.UnsignedInt)
    ∷ (codes "unsignedLong", types.UnsignedLong)
    ∷ (codes "nonPositiveInteger", types.NonPositiveInteger)
    ∷ (codes "negativeInteger", types.NegativeInteger)
    ∷ (codes "nonNegativeInteger", types.NonNegativeInteger)
    ∷ (codes "positiveInteger", types.PositiveInteger)
    ∷ (codes "hexBinary", types.HexBinary)
    ∷ (codes "base64Binary", types.Base64Binary)
    ∷ (codes "dateTime", types.DateTime)
    ∷ (codes "date", types.Date)
    ∷ (codes "time", types.Time)
    ∷ (codes "gYearMonth", types.GYearMonth)
    ∷ (codes "gYear", types.GYear)
    ∷ (codes "gMonthDay", types.GMonthDay)
    ∷ (codes "gDay", types.GDay)
    ∷ (codes "gMonth", types.GMonth)
    ∷ (codes "duration", types.Duration) ∷ [])
    local
