-- Values by buckets, so that one is looked for among few.
use Rattle.std.specs.Prelude.{◌≡◌, ℕ, ◌+◌, ◌*◌, ◌%◌, ◌<◌, ◌==◌, ℤ, Bool, if◌then◌else◌, Option, None, Some, unsigned_abs, List, [], ◌∷◌, ◌++◌, length, filter, slice_index_or, slice_set}
use Rattle.simple_values.specs.declared.atom.Atom.{Atom}
use Rattle.simple_values.specs.declared.atom.Atom.TheVariants.{Untyped, Text, Uri, Number}
use Rattle.simple_values.specs.declared.value.Value.{Value}
use Rattle.simple_values.specs.declared.value.Value.TheVariants as values

-- a number of the bytes of a text, behind what the bytes before them have
abbrev pub text_number : ℕ → List ℕ → ℕ
text_number number [] = number
text_number number (byte ∷ bytes) = text_number ((number * 31 + byte) % 4_294_967_291) bytes

-- a number of an integer; other numbers have 0
abbrev pub integer_number : Option ℤ → ℕ
integer_number None = 0
integer_number (Some n) = unsigned_abs n % 4_294_967_291

abbrev pub atom_number : Atom → ℕ
atom_number (Untyped text) = text_number 0 text
atom_number (Text text) = text_number 0 text
atom_number (Uri text) = text_number 0 text
atom_number (Number d) = integer_number (if d.scale == 0 then Some d.unscaled else None)
atom_number _ = 0

-- a number that values have in common that are the same
abbrev pub value_number : Value → ℕ
value_number (values.Atom _ atom) = atom_number atom
value_number (values.List items) = 0

-- the value falls into the bucket, of so many
abbrev pub falls : ℕ → ℕ → Value → Bool
falls count b value = (value_number value % count) == b

-- the value stands at the end of its bucket, and the others are as they were
abbrev pub IsPut : Value → List (List Value) → List (List Value) → Type 0
IsPut value old new =
    let at = value_number value % length old in
    new ≡ slice_set old at (slice_index_or old at [] ++ value ∷ [])

-- each bucket has the values that fall into it, in order, and there is one bucket at least
pub record AreBuckets (all : List Value) (buckets : List (List Value)) : Type 0 where
  pub some : 0 < length buckets
  pub each : (b : ℕ) → b < length buckets → slice_index_or buckets b [] ≡ filter (falls (length buckets) b) all
