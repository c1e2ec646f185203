-- The built-in types are below all others.
use Rattle.std.proofs.Common.{◌<◌, arith}
use Rattle.xs_codes.specs.declared.builtin.Builtin.{Builtin}
use Rattle.xs_codes.specs.declared.builtin.Builtin.TheVariants as built
use Rattle.component_references.specs.Heights.{builtin_height, first_height}

pub builtin-below : (b : Builtin) → builtin_height b < first_height
builtin-below built.String = omega arith
builtin-below built.NormalizedString = omega arith
builtin-below built.Token = omega arith
builtin-below built.AnyUri = omega arith
builtin-below built.AnySimpleType = omega arith
builtin-below built.Language = omega arith
builtin-below built.Name = omega arith
builtin-below built.NmToken = omega arith
builtin-below built.NcName = omega arith
builtin-below built.Id = omega arith
builtin-below built.IdRef = omega arith
builtin-below built.NmTokens = omega arith
builtin-below built.IdRefs = omega arith
builtin-below built.QName = omega arith
builtin-below built.Boolean = omega arith
builtin-below built.Decimal = omega arith
builtin-below built.Integer = omega arith
builtin-below built.Byte = omega arith
builtin-below built.Short = omega arith
builtin-below built.Int = omega arith
builtin-below built.Long = omega arith
builtin-below built.UnsignedByte = omega arith
builtin-below built.UnsignedShort = omega arith
builtin-below built.UnsignedInt = omega arith
builtin-below built.UnsignedLong = omega arith
builtin-below built.NonPositiveInteger = omega arith
builtin-below built.NegativeInteger = omega arith
builtin-below built.NonNegativeInteger = omega arith
builtin-below built.PositiveInteger = omega arith
builtin-below built.HexBinary = omega arith
builtin-below built.Base64Binary = omega arith
builtin-below built.DateTime = omega arith
builtin-below built.Date = omega arith
builtin-below built.Time = omega arith
builtin-below built.GYearMonth = omega arith
builtin-below built.GYear = omega arith
builtin-below built.GMonthDay = omega arith
builtin-below built.GDay = omega arith
builtin-below built.GMonth = omega arith
builtin-below built.Duration = omega arith
