-- The literals of atomic types and the values that they read to, white space being treated: Datatypes 3.2 and 3.3.
use Rattle.std.specs.Prelude.{ℕ, Bool, true, false, not, ◌&&◌, ◌||◌, ◌==◌, List, length, bytes_eq, codes, Option, Some, None, Result, Ok, Err, ℤ, if◌then◌else◌}
use Rattle.std.specs.Str.{chars}
use Rattle.std.specs.List.{list_all}
use Rattle.std.specs.Char.{is_ascii_digit}
use Rattle.dec_value.specs.Decimal.{Decimal}
use Rattle.dec_value.specs.Literal as decimals
use Rattle.dec_value.specs.declared.decimal.DecFault.{DecFault}
use Rattle.dec_value.specs.declared.decimal.DecFault.TheVariants.{NotDecimal, TooWide}
use Rattle.time_value.specs.declared.fault.TimeFault.{TimeFault}
use Rattle.time_value.specs.declared.fault.TimeFault.TheVariants as times
use Rattle.time_value.specs.declared.literal.MomentKind.{MomentKind}
use Rattle.time_value.specs.Moment as moments
use Rattle.time_value.specs.Moment.{MomentValue}
use Rattle.time_value.specs.Span as spans
use Rattle.time_value.specs.Span.{SpanValue}
use Rattle.simple_values.specs.Binary.{hex_octets, base64_octets}
use Rattle.xs_names.specs.Characters as names
use Rattle.xs_names.specs.QName.{qname}
use Rattle.xs_names.specs.Scope.{resolved}
use Rattle.simple_values.specs.declared.fault.ValueFault.{ValueFault}
use Rattle.simple_values.specs.declared.fault.ValueFault.TheVariants.{NotLexical, Limit}
use Rattle.simple_values.specs.declared.atom.Atom.{Atom}
use Rattle.simple_values.specs.declared.atom.Atom.TheVariants as atoms
use Rattle.simple_values.specs.declared.grammar.Grammar.{Grammar}
use Rattle.simple_values.specs.declared.grammar.Grammar.TheVariants as forms
use Rattle.simple_values.specs.Language.{is_language}

-- the text itself, where it is a literal
abbrev pub text_where : Bool → List ℕ → Result Atom ValueFault
text_where true text = Ok (atoms.Text text)
text_where false text = Err NotLexical

-- 3.2.18: the literals are QNames whose prefix, if there is one, is bound; a name without one is in the default namespace
abbrev pub in_namespace : List ℕ → Option ℕ → Result Atom ValueFault
in_namespace local None = Err NotLexical
in_namespace local (Some space) = Ok (atoms.Name (record { namespace = space; local = local }))

abbrev pub expanded : List (List ℕ × ℕ) → Option (Option (List ℕ) × List ℕ) → Result Atom ValueFault
expanded scope None = Err NotLexical
expanded scope (Some parts) = in_namespace parts.1 (resolved scope parts.0)

abbrev pub name_value : List (List ℕ × ℕ) → List ℕ → Result Atom ValueFault
name_value scope text = expanded scope (qname text)

-- 3.2.2.1: true, false, 1, 0
abbrev pub boolean_value : List ℕ → Result Atom ValueFault
boolean_value text =
    if bytes_eq text (codes "true") || bytes_eq text (codes "1") then Ok (atoms.Boolean true)
    else (if bytes_eq text (codes "false") || bytes_eq text (codes "0") then Ok (atoms.Boolean false)
    else Err NotLexical)

-- 3.2.3: decimals, in lowest form
abbrev pub limited : Result Decimal DecFault → Result Decimal ValueFault
limited (Ok d) = Ok d
limited (Err NotDecimal) = Err NotLexical
limited (Err TooWide) = Err Limit

abbrev pub decimal_value : List ℕ → Result Decimal ValueFault
decimal_value text = limited (decimals.decimal_of text)

-- 3.3.13.1: digits, at least one, behind an optional sign
abbrev pub are_digits : List ℕ → Bool
are_digits digits = list_all is_ascii_digit digits && not (length digits == 0)

abbrev pub is_integer_literal : List ℕ → Bool
is_integer_literal text = are_digits (decimals.unsigned text)

-- the integer that a literal writes
abbrev pub integer_of : List ℕ → ℤ
integer_of text = decimals.signed (decimals.is_negative text) (decimals.number (decimals.unsigned text))

-- 3.3.13: the integer of a literal, whatever the range of the type is, unless it has more than 38 digits
abbrev pub integer_value : List ℕ → Result Decimal ValueFault
integer_value text =
    if is_integer_literal text
    then limited (decimals.narrow (record { unscaled = integer_of text; scale = 0 }))
    else Err NotLexical

abbrev pub number : Result Decimal ValueFault → Result Atom ValueFault
number (Ok d) = Ok (atoms.Number d)
number (Err fault) = Err fault

-- 3.2.15 and 3.2.16
abbrev pub hex : Option (List ℕ) → Result Atom ValueFault
hex (Some octets) = Ok (atoms.Hex octets)
hex None = Err NotLexical

abbrev pub base64 : Option (List ℕ) → Result Atom ValueFault
base64 (Some octets) = Ok (atoms.Base64 octets)
base64 None = Err NotLexical

-- 3.2.6 to 3.2.14: a day that its month has not makes a text no literal
abbrev pub time_fault : TimeFault → ValueFault
time_fault times.NotLexical = NotLexical
time_fault times.NoSuchDate = NotLexical
time_fault times.OutOfRange = Limit

abbrev pub placed : MomentKind → Result MomentValue TimeFault → Result Atom ValueFault
placed kind (Ok moment) = Ok (atoms.Instant kind moment)
placed kind (Err fault) = Err (time_fault fault)

abbrev pub moment_value : MomentKind → List ℕ → Result Atom ValueFault
moment_value kind text = placed kind (moments.moment kind text)

abbrev pub lasting : Result SpanValue TimeFault → Result Atom ValueFault
lasting (Ok span) = Ok (atoms.Duration span)
lasting (Err fault) = Err (time_fault fault)

abbrev pub duration_value : List ℕ → Result Atom ValueFault
duration_value text = lasting (spans.span text)

-- what a text reads to by each grammar
abbrev pub atom_value : Grammar → List (List ℕ × ℕ) → List ℕ → Result Atom ValueFault
atom_value forms.Untyped scope text = Ok (atoms.Untyped text)
atom_value forms.Text scope text = Ok (atoms.Text text)
atom_value forms.Uri scope text = Ok (atoms.Uri text)
atom_value forms.Language scope text = text_where (is_language text) text
atom_value forms.Name scope text = text_where (names.is_name (chars text)) text
atom_value forms.NmToken scope text = text_where (names.is_nmtoken (chars text)) text
atom_value forms.NcName scope text = text_where (names.is_ncname (chars text)) text
atom_value forms.QName scope text = name_value scope text
atom_value forms.Boolean scope text = boolean_value text
atom_value forms.Decimal scope text = number (decimal_value text)
atom_value forms.Integer scope text = number (integer_value text)
atom_value forms.Hex scope text = hex (hex_octets text)
atom_value forms.Base64 scope text = base64 (base64_octets text)
atom_value (forms.Moment kind) scope text = moment_value kind text
atom_value forms.Duration scope text = duration_value text
