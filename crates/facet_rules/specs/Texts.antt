-- What the texts of facets are read to: Datatypes 4.3.
use Rattle.std.specs.Prelude.{◌≡◌, ℕ, nat_lt, if◌then◌else◌, List, Option, None, Some, Result, Ok, Err, bytes_eq, codes, ℤ, pos, negsuc, int_lt}
use Rattle.dec_value.specs.Decimal.{Decimal}
use Rattle.xs_names.specs.declared.handling.WhiteSpace.TheVariants.{Preserve, Replace, Collapse}
use Rattle.xs_codes.specs.declared.builtin.Builtin.{Builtin}
use Rattle.xs_codes.specs.declared.builtin.Builtin.TheVariants as types
use Rattle.xs_codes.specs.declared.code.Code.{Code}
use Rattle.xs_codes.specs.declared.code.Code.TheVariants.{XLimitValue, XFacetLiteral}
use Rattle.xs_components.specs.declared.simple.FacetItem.{FacetItem}
use Rattle.xs_components.specs.declared.simple.FacetKind.{FacetKind}
use Rattle.xs_components.specs.declared.simple.FacetKind.TheVariants as kinds
use Rattle.simple_values.specs.declared.fault.ValueFault.{ValueFault}
use Rattle.simple_values.specs.declared.fault.ValueFault.TheVariants.{NotLexical, Limit}
use Rattle.simple_values.specs.declared.value.Value.{Value}
use Rattle.simple_values.specs.Reading.{literal_value, value_of}
use Rattle.facet_checks.specs.Check.{number_of}
use Rattle.facet_checks.specs.Patterns.{IsRefusedPattern}
use Rattle.facet_rules.specs.declared.step.Reading.{Reading}
use Rattle.facet_rules.specs.declared.step.Reading.TheVariants as readings
use Rattle.facet_rules.specs.declared.read.FacetRead.{FacetRead}
use Rattle.facet_rules.specs.declared.read.FacetRead.TheVariants as reads

-- x-facet.literal (own): the text is no literal; x-limit.value: its value is past the limits
abbrev pub literal_code : ValueFault → Code
literal_code NotLexical = XFacetLiteral
literal_code Limit = XLimitValue

abbrev pub refused : Code → FacetRead
refused code = reads.Plain (readings.Refused code)

-- Datatypes 4.3.6: preserve, replace or collapse
abbrev pub way_reading : List ℕ → Reading
way_reading text =
    if bytes_eq text (codes "preserve") then readings.Handling Preserve
    else (if bytes_eq text (codes "replace") then readings.Handling Replace
    else (if bytes_eq text (codes "collapse") then readings.Handling Collapse
    else readings.Refused XFacetLiteral))

-- Datatypes 4.3.1 to 4.3.3, 4.3.11 and 4.3.12: an integer from 0, of totalDigits from 1, and at most 4,294,967,295
abbrev pub count_at : ℤ → ℤ → Reading
count_at least (negsuc n) = readings.Refused XFacetLiteral
count_at least (pos n) =
    if int_lt (pos n) least then readings.Refused XFacetLiteral
    else (if nat_lt 4_294_967_295 n then readings.Refused XLimitValue else readings.Count n)

abbrev pub whole_count : ℤ → Option Decimal → Reading
whole_count least None = readings.Refused XFacetLiteral
whole_count least (Some d) = if nat_lt 0 d.scale then readings.Refused XFacetLiteral else count_at least d.unscaled

abbrev pub count_of : ℤ → Value → Reading
count_of least value = whole_count least (number_of value)

abbrev pub count_by : ℤ → Result Value ValueFault → FacetRead
count_by least (Ok value) = reads.Plain (count_of least value)
count_by least (Err fault) = refused (literal_code fault)

abbrev pub count_read : ℤ → FacetItem → FacetRead
count_read least item = count_by least (literal_value types.Integer item.scope item.text)

-- a bound is a literal of the built-in type that the base is or is derived from
abbrev pub bound_by : Result Value ValueFault → FacetRead
bound_by (Ok value) = reads.Plain (readings.Limit value)
bound_by (Err fault) = refused (literal_code fault)

abbrev pub bound_read : Builtin → FacetItem → FacetRead
bound_read kind item = bound_by (value_of kind item.scope item.text)

abbrev pub pattern_read : List ℕ → Result (List ℕ) Code → FacetRead
pattern_read text (Ok pattern) = reads.Pattern text
pattern_read text (Err code) = refused code

abbrev pub IsPatternRead : List ℕ → FacetRead → Type 0
IsPatternRead text read = (outcome : Result (List ℕ) Code) × IsRefusedPattern text outcome × (read ≡ pattern_read text outcome)

-- what the text of a facet of a kind is read to that fits its base, which is or is derived from a built-in type; a value of
-- an enumeration is left unread
abbrev pub IsTextRead : FacetKind → Builtin → FacetItem → FacetRead → Type 0
IsTextRead kinds.Pattern kind item read = IsPatternRead item.text read
IsTextRead kinds.Enumeration kind item read = read ≡ reads.Plain readings.Unread
IsTextRead kinds.WhiteSpace kind item read = read ≡ reads.Plain (way_reading item.text)
IsTextRead kinds.TotalDigits kind item read = read ≡ count_read (pos 1) item
IsTextRead kinds.FractionDigits kind item read = read ≡ count_read (pos 0) item
IsTextRead kinds.Length kind item read = read ≡ count_read (pos 0) item
IsTextRead kinds.MinLength kind item read = read ≡ count_read (pos 0) item
IsTextRead kinds.MaxLength kind item read = read ≡ count_read (pos 0) item
IsTextRead kinds.MaxInclusive kind item read = read ≡ bound_read kind item
IsTextRead kinds.MaxExclusive kind item read = read ≡ bound_read kind item
IsTextRead kinds.MinExclusive kind item read = read ≡ bound_read kind item
IsTextRead kinds.MinInclusive kind item read = read ≡ bound_read kind item
