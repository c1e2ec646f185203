-- Which literals each built-in type has, and what it does with white space: Datatypes 3.2 and 3.3.
use Rattle.std.specs.Prelude.{Option, Some, None}
use Rattle.xs_codes.specs.declared.builtin.Builtin.{Builtin}
use Rattle.xs_codes.specs.declared.builtin.Builtin.TheVariants as types
use Rattle.time_value.specs.declared.literal.MomentKind.TheVariants as kinds
use Rattle.xs_names.specs.declared.handling.WhiteSpace.{WhiteSpace}
use Rattle.xs_names.specs.declared.handling.WhiteSpace.TheVariants.{Preserve, Replace, Collapse}
use Rattle.simple_values.specs.declared.grammar.Grammar.{Grammar}
use Rattle.simple_values.specs.declared.grammar.Grammar.TheVariants as forms

-- the literals of an atomic type, and of the items of a list type
abbrev pub grammar_of : Builtin → Grammar
grammar_of types.AnySimpleType = forms.Untyped
grammar_of types.String = forms.Text
grammar_of types.NormalizedString = forms.Text
grammar_of types.Token = forms.Text
grammar_of types.AnyUri = forms.Uri
grammar_of types.Language = forms.Language
grammar_of types.Name = forms.Name
grammar_of types.NmToken = forms.NmToken
grammar_of types.NmTokens = forms.NmToken
grammar_of types.NcName = forms.NcName
grammar_of types.Id = forms.NcName
grammar_of types.IdRef = forms.NcName
grammar_of types.IdRefs = forms.NcName
grammar_of types.QName = forms.QName
grammar_of types.Boolean = forms.Boolean
grammar_of types.Decimal = forms.Decimal
grammar_of types.HexBinary = forms.Hex
grammar_of types.Base64Binary = forms.Base64
grammar_of types.DateTime = forms.Moment kinds.DateTime
grammar_of types.Date = forms.Moment kinds.Date
grammar_of types.Time = forms.Moment kinds.Time
grammar_of types.GYearMonth = forms.Moment kinds.YearMonth
grammar_of types.GYear = forms.Moment kinds.Year
grammar_of types.GMonthDay = forms.Moment kinds.MonthDay
grammar_of types.GDay = forms.Moment kinds.Day
grammar_of types.GMonth = forms.Moment kinds.Month
grammar_of types.Duration = forms.Duration
grammar_of types.Integer = forms.Integer
grammar_of types.Byte = forms.Integer
grammar_of types.Short = forms.Integer
grammar_of types.Int = forms.Integer
grammar_of types.Long = forms.Integer
grammar_of types.UnsignedByte = forms.Integer
grammar_of types.UnsignedShort = forms.Integer
grammar_of types.UnsignedInt = forms.Integer
grammar_of types.UnsignedLong = forms.Integer
grammar_of types.NonPositiveInteger = forms.Integer
grammar_of types.NegativeInteger = forms.Integer
grammar_of types.NonNegativeInteger = forms.Integer
grammar_of types.PositiveInteger = forms.Integer

-- 3.3.5 and 3.3.10: NMTOKENS and IDREFS are lists
abbrev pub item_type : Builtin → Option Builtin
item_type types.NmTokens = Some types.NmToken
item_type types.IdRefs = Some types.IdRef
item_type _ = None

-- 4.3.6: preserve for string, replace for normalizedString, collapse for all the others
abbrev pub white_space_of : Builtin → WhiteSpace
white_space_of types.AnySimpleType = Preserve
white_space_of types.String = Preserve
white_space_of types.NormalizedString = Replace
white_space_of _ = Collapse
