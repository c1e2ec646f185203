-- The characters that have a part in the grammar of regular expressions (Datatypes, appendix F).
use Rattle.std.specs.Prelude.{◌≡◌, ℕ, Bool, true, false, not, ◌&&◌, ◌||◌, ◌==◌, nat_le, if◌then◌else◌, List, [], ◌∷◌, Option, Some, None, refl}
use Rattle.std.specs.Char.{is_ascii_digit}
pub use Rattle.std.specs.Char.{is_ascii_digit}
use Rattle.pattern_syntax.specs.declared.set.CharSet.TheVariants.{Space, NameStart, NameChar, Digit, Word}
use Rattle.pattern_syntax.specs.declared.class.ClassItem.{ClassItem}
use Rattle.pattern_syntax.specs.declared.class.ClassItem.TheVariants.{In, NotIn}

-- the list has the character
abbrev pub is_among : List ℕ → ℕ → Bool
is_among [] c = false
is_among (d ∷ ds) c = c == d || is_among ds c

-- F, a normal character: every one but . \ ? * + ( ) | [ ] {
abbrev pub is_normal : ℕ → Bool
is_normal c = not (is_among (46 ∷ 92 ∷ 63 ∷ 42 ∷ 43 ∷ 40 ∷ 41 ∷ 124 ∷ 91 ∷ 93 ∷ 123 ∷ []) c)

-- F.1, a character that stands for itself in a class wherever it stands: every one but [ ] \ -
abbrev pub is_plain : ℕ → Bool
is_plain c = not (is_among (91 ∷ 93 ∷ 92 ∷ 45 ∷ []) c)

-- F.1.1, what may stand behind the backslash of an escape of one character: n r t \ | . ? * + ( ) { } - [ ] ^
abbrev pub is_single : ℕ → Bool
is_single c = is_among (110 ∷ 114 ∷ 116 ∷ 92 ∷ 124 ∷ 46 ∷ 63 ∷ 42 ∷ 43 ∷ 40 ∷ 41 ∷ 123 ∷ 125 ∷ 45 ∷ 91 ∷ 93 ∷ 94 ∷ []) c

-- the character that such an escape stands for: \n line feed, \r carriage return, \t tab, else what stands behind the backslash
abbrev pub single_value : ℕ → ℕ
single_value c = if c == 110 then 10 else (if c == 114 then 13 else (if c == 116 then 9 else c))

-- F.1.1, what an escape of several characters stands for: \s \i \c \d \w, and the others by the capital
abbrev pub several_item : ℕ → Option ClassItem
several_item c =
    if c == 115 then Some (In Space) else (if c == 83 then Some (NotIn Space) else
    (if c == 105 then Some (In NameStart) else (if c == 73 then Some (NotIn NameStart) else
    (if c == 99 then Some (In NameChar) else (if c == 67 then Some (NotIn NameChar) else
    (if c == 100 then Some (In Digit) else (if c == 68 then Some (NotIn Digit) else
    (if c == 119 then Some (In Word) else (if c == 87 then Some (NotIn Word) else None)))))))))

-- F.1.1, a character of a class name: a letter, a digit or a hyphen
abbrev pub is_word : ℕ → Bool
is_word c = (nat_le 65 c && nat_le c 90) || (nat_le 97 c && nat_le c 122) || is_ascii_digit c || c == 45

-- `}` is normal outside classes
pub example-brace : is_normal 125 ≡ true
example-brace = refl

pub example-tab : single_value 116 ≡ 9
example-tab = refl
