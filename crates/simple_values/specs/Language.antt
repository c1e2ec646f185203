-- Language tags, Datatypes 3.3.3: [a-zA-Z]{1,8}(-[a-zA-Z0-9]{1,8})*
use Rattle.std.specs.Prelude.{◌≡◌, ℕ, Bool, true, false, ◌&&◌, ◌==◌, nat_le, if◌then◌else◌, List, [], ◌∷◌, length, codes, refl}
use Rattle.std.specs.List.{list_all, slice_split}
use Rattle.std.specs.Char.{is_ascii_alphabetic, is_ascii_alphanumeric}

-- [a-zA-Z], and in later parts [a-zA-Z0-9]
abbrev pub is_part_char : Bool → ℕ → Bool
is_part_char is_first c = if is_first then is_ascii_alphabetic c else is_ascii_alphanumeric c

-- one to eight of these
abbrev pub is_part_length : ℕ → Bool
is_part_length n = nat_le 1 n && nat_le n 8

abbrev pub is_part : Bool → List ℕ → Bool
is_part is_first part = is_part_length (length part) && list_all (is_part_char is_first) part

abbrev pub are_parts : List (List ℕ) → Bool
are_parts [] = false
are_parts (first ∷ more) = is_part true first && list_all (is_part false) more

abbrev pub is_hyphen : ℕ → Bool
is_hyphen c = c == 0x2D

abbrev pub is_language : List ℕ → Bool
is_language text = are_parts (slice_split is_hyphen text)

-- for example
pub example-tag : is_language (codes "en-US-1997") ≡ true
example-tag = refl

pub example-digits_first : is_language (codes "9en-US") ≡ false
example-digits_first = refl
