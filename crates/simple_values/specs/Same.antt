-- Equality, order and length of values, and what keys keep of them: Datatypes 2.2, 3.2 and 4.3.1.
use Rattle.std.specs.Prelude.{ℕ, Bool, true, false, ◌&&◌, ◌==◌, not, if◌then◌else◌, List, map, length, bytes_eq, Option, Some, None, option_map}
use Rattle.std.specs.Cmp.Lexicographic.{pointwise}
use Rattle.std.specs.Ordering.{int_eq, is_lt}
use Rattle.std.specs.Str.{chars}
use Rattle.dec_value.specs.Decimal.{order_of}
use Rattle.time_value.specs.declared.literal.MomentKind.{MomentKind}
use Rattle.time_value.specs.declared.literal.MomentKind.TheVariants as kinds
use Rattle.time_value.specs.Moment as moments
use Rattle.time_value.specs.Span as spans
use Rattle.simple_values.specs.declared.atom.Atom.{Atom}
use Rattle.simple_values.specs.declared.atom.Atom.TheVariants.{Untyped, Text, Uri, Name, Boolean, Number, Hex, Base64, Instant, Duration}
use Rattle.simple_values.specs.declared.atoms.TypedAtom.{TypedAtom}
use Rattle.simple_values.specs.declared.value.Value.{Value}
use Rattle.simple_values.specs.declared.value.Value.TheVariants as values
use Rattle.simple_values.specs.declared.key.Key.{Key}
use Rattle.simple_values.specs.declared.key.Key.TheVariants as keys

abbrev pub same_truth : Bool → Bool → Bool
same_truth a b = if a then b else not b

-- the same of the eight types of moments
abbrev pub same_kind : MomentKind → MomentKind → Bool
same_kind kinds.DateTime kinds.DateTime = true
same_kind kinds.Date kinds.Date = true
same_kind kinds.Time kinds.Time = true
same_kind kinds.YearMonth kinds.YearMonth = true
same_kind kinds.Year kinds.Year = true
same_kind kinds.MonthDay kinds.MonthDay = true
same_kind kinds.Day kinds.Day = true
same_kind kinds.Month kinds.Month = true
same_kind _ _ = false

-- 2.2 and 3.2: two atoms are the same where they are of one primitive type and are one value of it: texts and octets by
-- what they are made of, names by their two parts, numbers in lowest form, moments with a zone or without by their place on
-- the time line, durations by their months and seconds
abbrev pub same_atom : Atom → Atom → Bool
same_atom (Untyped a) (Untyped b) = bytes_eq a b
same_atom (Text a) (Text b) = bytes_eq a b
same_atom (Uri a) (Uri b) = bytes_eq a b
same_atom (Name a) (Name b) = (a.namespace == b.namespace) && bytes_eq a.local b.local
same_atom (Boolean a) (Boolean b) = same_truth a b
same_atom (Number a) (Number b) = int_eq a.unscaled b.unscaled && (a.scale == b.scale)
same_atom (Hex a) (Hex b) = bytes_eq a b
same_atom (Base64 a) (Base64 b) = bytes_eq a b
same_atom (Instant j a) (Instant k b) = same_kind j k && moments.is_same a b
same_atom (Duration a) (Duration b) = spans.is_same a b
same_atom _ _ = false

abbrev pub same_item : TypedAtom → TypedAtom → Bool
same_item a b = same_atom a.atom b.atom

-- two lists are the same where they have the same items in order; a list is never an atom
abbrev pub same : Value → Value → Bool
same (values.Atom _ a) (values.Atom _ b) = same_atom a b
same (values.List a) (values.List b) = pointwise same_item a b
same _ _ = false

-- 3.2: numbers, moments and durations have an order, which is not always decided; other types have none
abbrev pub less_atom : Atom → Atom → Option Bool
less_atom (Number a) (Number b) = Some (is_lt (order_of a b))
less_atom (Instant j a) (Instant k b) = if same_kind j k then option_map is_lt (moments.order a b) else None
less_atom (Duration a) (Duration b) = option_map is_lt (spans.order a b)
less_atom _ _ = None

abbrev pub less : Value → Value → Option Bool
less (values.Atom _ a) (values.Atom _ b) = less_atom a b
less _ _ = None

-- 4.3.1: strings and URIs have a length in characters, binary values in octets, lists in items
abbrev pub atom_length : Atom → Option ℕ
atom_length (Text a) = Some (length (chars a))
atom_length (Uri a) = Some (length (chars a))
atom_length (Hex a) = Some (length a)
atom_length (Base64 a) = Some (length a)
atom_length _ = None

abbrev pub length_of : Value → Option ℕ
length_of (values.Atom _ a) = atom_length a
length_of (values.List items) = Some (length items)

abbrev pub atoms_of : List TypedAtom → List Atom
atoms_of items = map (λ item. item.atom) items

-- a key is the value without the types that accepted it
abbrev pub key_value : Value → Key
key_value (values.Atom _ a) = keys.Atom a
key_value (values.List items) = keys.List (atoms_of items)
