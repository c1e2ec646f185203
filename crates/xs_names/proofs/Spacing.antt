-- Spaces in place of other white space, among the characters and in their encoding.
use Rattle.std.proofs.Common.{◌≡◌, ℕ, ◌<◌, ◌≤◌, ◌+◌, ◌/◌, true, false, cond, List, [], ◌∷◌, map, refl, sym, ap, ◌∙◌, arith, ltb, inl, inr}
use Rattle.std.specs.Prelude.{encode_utf8_all}
use lib.Utf8.{encode, next}
use Rattle.std.proofs.lemmas.Bool.{cases_lt}
use Rattle.std.proofs.lemmas.Bool.Decides.{nat_tests}
use Rattle.std.proofs.lemmas.List.{map-append}
use Rattle.std.proofs.lemmas.Str.{encode_ascii, encodes-chars}
use Rattle.std.specs.Str.{chars, IsUtf8}
use Rattle.xs_names.specs.WhiteSpace.{to_space, replaced}

to_space_high : (c : ℕ) → 128 ≤ c → to_space c ≡ c
to_space_high c h = grind (arith, nat_tests)

to_space_low : (c : ℕ) → c < 128 → to_space c < 128
to_space_low c h = grind (arith, nat_tests)

two : (a b : ℕ) → 128 ≤ a → 128 ≤ b → map to_space (a ∷ b ∷ []) ≡ a ∷ b ∷ []
two a b p q = rw (to_space_high a p, to_space_high b q) refl

three : (a b c : ℕ) → 128 ≤ a → 128 ≤ b → 128 ≤ c → map to_space (a ∷ b ∷ c ∷ []) ≡ a ∷ b ∷ c ∷ []
three a b c p q r = rw (to_space_high a p, to_space_high b q, to_space_high c r) refl

four : (a b c d : ℕ) → 128 ≤ a → 128 ≤ b → 128 ≤ c → 128 ≤ d → map to_space (a ∷ b ∷ c ∷ d ∷ []) ≡ a ∷ b ∷ c ∷ d ∷ []
four a b c d p q r s = rw (to_space_high a p, to_space_high b q, to_space_high c r, to_space_high d s) refl

high_bytes : (c : ℕ) → 128 ≤ c → map to_space (encode c) ≡ encode c
unfolding encode
high_bytes c h =
    let no : ltb c 128 ≡ false = grind (arith, nat_tests) in
    rw no (elim (ltb c 2048) as (λ t. map to_space (cond t ((192 + c / 64) ∷ next c ∷ []) (cond (ltb c 65536) ((224 + c / 4096) ∷ next (c / 64) ∷ next c ∷ []) ((240 + c / 262144) ∷ next (c / 4096) ∷ next (c / 64) ∷ next c ∷ [])))
    ≡ cond t ((192 + c / 64) ∷ next c ∷ []) (cond (ltb c 65536) ((224 + c / 4096) ∷ next (c / 64) ∷ next c ∷ []) ((240 + c / 262144) ∷ next (c / 4096) ∷ next (c / 64) ∷ next c ∷ []))) [
      | true ↦ two _ _ (omega arith) (omega arith)
      | false ↦ elim (ltb c 65536) as (λ t. map to_space (cond t ((224 + c / 4096) ∷ next (c / 64) ∷ next c ∷ []) ((240 + c / 262144) ∷ next (c / 4096) ∷ next (c / 64) ∷ next c ∷ []))
          ≡ cond t ((224 + c / 4096) ∷ next (c / 64) ∷ next c ∷ []) ((240 + c / 262144) ∷ next (c / 4096) ∷ next (c / 64) ∷ next c ∷ [])) [
            | true ↦ three _ _ _ (omega arith) (omega arith) (omega arith)
            | false ↦ four _ _ _ _ (omega arith) (omega arith) (omega arith) (omega arith)
          ]
    ])

encode_spaced : (c : ℕ) → map to_space (encode c) ≡ encode (to_space c)
encode_spaced c = elim (cases_lt c 128) [
  | inl low ↦ rw (encode_ascii c low, encode_ascii (to_space c) (to_space_low c low)) refl
  | inr high ↦ rw (to_space_high c high) (high_bytes c high)
]

pub encodes_spaced : (cs : List ℕ) → map to_space (encode_utf8_all cs) ≡ encode_utf8_all (map to_space cs)
encodes_spaced [] = refl
encodes_spaced (c ∷ cs) = rw (map-append to_space (encode c) (encode_utf8_all cs), encode_spaced c, encodes_spaced cs) refl

pub replaced-encodes : (text : List ℕ) → IsUtf8 text → encode_utf8_all (map to_space (chars text)) ≡ replaced text
replaced-encodes text u = sym (encodes_spaced (chars text)) ∙ ap (map to_space) (encodes-chars text u)
