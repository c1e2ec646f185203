-- The literals of hexBinary and base64Binary: Datatypes 3.2.15 and 3.2.16.
use Rattle.std.specs.Prelude.{◌≡◌, ℕ, ◌+◌, ◌*◌, ◌==◌, not, List, [], ◌∷◌, filter, Option, Some, None, codes, refl}
use Rattle.std.specs.Result.{result_ok}
use Rattle.hex.specs.Hex.{hex_digit_value}
use Rattle.base64.specs.Engines.{standard}
use Rattle.base64.specs.GeneralPurpose.{encode_of, decode_of, IsBytes}

infixl 10 ◌>>=◌
abbrev pub ◌>>=◌ : {A B : Type 0} → Option A → (A → Option B) → Option B
(Some x) >>= f = f x
None >>= f = None

-- 3.2.15: each octet is written as a pair of hexadecimal digits, the high four bits first
abbrev pub hex_octets : List ℕ → Option (List ℕ)
hex_octets [] = Some []
hex_octets (digit ∷ []) = None
hex_octets (high ∷ low ∷ rest) = do
  h ← hex_digit_value high
  l ← hex_digit_value low
  octets ← hex_octets rest
  Some ((h * 16 + l) ∷ octets)

-- 3.2.16: a space may stand behind each character
abbrev pub without_spaces : List ℕ → List ℕ
without_spaces text = filter (λ c. not (c == 0x20)) text

-- RFC 4648, 4: the text is the encoding of the octets in the standard alphabet, with padding
abbrev pub IsBase64 : List ℕ → List ℕ → Type 0
IsBase64 text octets = IsBytes octets × (without_spaces text ≡ encode_of standard octets)

-- the octets that the text encodes, if there are any
abbrev pub base64_octets : List ℕ → Option (List ℕ)
base64_octets text = result_ok (decode_of standard (without_spaces text))

-- for example
pub example-hex : hex_octets (codes "0fB7") ≡ Some (15 ∷ 183 ∷ [])
example-hex = refl

pub example-odd : hex_octets (codes "0fB") ≡ None
example-odd = refl
