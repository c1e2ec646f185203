-- What decoding hexadecimal digits answers, against the octets that they write.
use Rattle.std.proofs.Common.{◌≡◌, ℕ, ◌+◌, ◌*◌, ◌%◌, ◌==◌, Bool, true, false, cond, List, [], ◌∷◌, length, inl, inr, ◌⊎◌, Option, Some, None, Result, Ok, Err, refl, sym, ap, ◌∙◌, arith}
use Rattle.std.specs.Result.{result_ok}
use Rattle.std.proofs.lemmas.Bool.Decides.{nat_tests}
use Rattle.hex.specs.declared.error.FromHexError.{FromHexError}
use Rattle.hex.specs.declared.error.FromHexError.TheVariants.{OddLength, OutOfMemory}
use Rattle.hex.specs.Hex as hex
use Rattle.hex.specs.Hex.{decode_of, decode_pairs, digit_or_error, hex_digit_value}
use Rattle.simple_values.specs.Binary.{hex_octets, ◌>>=◌}

-- one pair, by the values of its digits and what the rest decodes to
pair_step : (a b : Option ℕ) (high low i : ℕ) (r : Result (List ℕ) FromHexError) (o : Option (List ℕ)) → result_ok r ≡ o
    → result_ok (hex.◌>>=◌ (hex.◌>>=◌ (digit_or_error high i a) (λ h. hex.◌>>=◌ (digit_or_error low (i + 1) b) (λ l. Ok (h * 16 + l)))) (λ byte. hex.◌>>=◌ r (λ bytes. Ok (byte ∷ bytes))))
    ≡ (a >>= (λ h. b >>= (λ l. o >>= (λ octets. Some ((h * 16 + l) ∷ octets)))))
pair_step None b high low i r o e = refl
pair_step (Some x) None high low i r o e = refl
pair_step (Some x) (Some y) high low i (Ok bytes) o e = rw (← e) refl
pair_step (Some x) (Some y) high low i (Err f) o e = rw (← e) refl

pairs_decoded : (i : ℕ) (text : List ℕ) → result_ok (decode_pairs i text) ≡ hex_octets text
unfolding decode_pairs
pairs_decoded i [] = refl
pairs_decoded i (digit ∷ []) = refl
pairs_decoded i (high ∷ low ∷ rest) =
    pair_step (hex_digit_value high) (hex_digit_value low) high low i (decode_pairs (i + 2) rest) (hex_octets rest) (pairs_decoded (i + 2) rest)

no_rest : (a b : Option ℕ) (o : Option (List ℕ)) → o ≡ None → (a >>= (λ h. b >>= (λ l. o >>= (λ octets. Some ((h * 16 + l) ∷ octets))))) ≡ None
no_rest None b o e = refl
no_rest (Some x) None o e = refl
no_rest (Some x) (Some y) o e = rw e refl

odd_is_none : (text : List ℕ) → length text % 2 ≡ 1 → hex_octets text ≡ None
odd_is_none [] h = absurd (omega arith)
odd_is_none (digit ∷ []) h = refl
odd_is_none (high ∷ low ∷ rest) h =
    let r : length rest % 2 ≡ 1 = omega arith in
    no_rest (hex_digit_value high) (hex_digit_value low) (hex_octets rest) (odd_is_none rest r)

by_length : (b : Bool) (text : List ℕ) → (length text % 2 == 1) ≡ b → result_ok (cond b (Err OddLength) (decode_pairs 0 text)) ≡ hex_octets text
by_length true text e = sym (odd_is_none text (grind (arith, nat_tests)))
by_length false text e = pairs_decoded 0 text

pub hex_decoded : (text : List ℕ) → result_ok (decode_of text) ≡ hex_octets text
hex_decoded text = by_length (length text % 2 == 1) text refl

pub decoded_some : (text bytes : List ℕ) → decode_of text ≡ Ok bytes → hex_octets text ≡ Some bytes
decoded_some text bytes e = sym (hex_decoded text) ∙ ap result_ok e

pub decoded_none : (text : List ℕ) (f : FromHexError) → decode_of text ≡ Err f → hex_octets text ≡ None
decoded_none text f e = sym (hex_decoded text) ∙ ap result_ok e

pub refused : (text : List ℕ) (f : FromHexError) → ¬ (f ≡ OutOfMemory) → (f ≡ OutOfMemory) ⊎ (decode_of text ≡ Err f) → None ≡ hex_octets text
refused text f n (inl e) = absurd (n e)
refused text f n (inr e) = sym (decoded_none text f e)
