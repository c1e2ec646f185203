-- The maps of letters act as children of these members do.
use Rattle.std.proofs.Common.{◌≡◌, ℕ, ◌^◌, ◌*◌, ◌==◌, not, ◌||◌, Bool, true, false, List, [], ◌∷◌, map, refl, sym, ap, ◌∙◌, inl, inr, arith, eqb-true, eq-eqb}
use Rattle.std.specs.Prelude.{nat_lt, bit_and, bit_or}
use Rattle.std.specs.Int.{bit_at}
use Rattle.std.proofs.lemmas.Bool.{cases_eq, ne_eqb}
use Rattle.std.proofs.lemmas.Nat.{pow_pos}
use Rattle.std.proofs.lemmas.Nat.Bits.{bit_at_or, bit_at-zero, bit_at-lt, bit_at-pow_other, same_from_bits, and_pow}
use Rattle.child_trees.specs.Lists.{Entry, acts_along}
use Rattle.content_models.specs.declared.state.AllState.{AllState}
use Rattle.content_models.specs.States.{next_of, run}
use Rattle.model_summaries.specs.declared.map.AllMap.{AllMap}
use Rattle.model_summaries.specs.Masks.{meets, of_letter, acts}

or_zero : (a : ℕ) → bit_or a 0 ≡ a
or_zero a = same_from_bits (bit_or a 0) a (λ i. let p = bit_at_or a 0 i in let q = bit_at-zero i in omega arith)

-- a bit that is set stays as it is
or_same : (a k : ℕ) → bit_at a k ≡ 1 → bit_or a (2 ^ k) ≡ a
or_same a k e = same_from_bits (bit_or a (2 ^ k)) a (λ i. elim (cases_eq i k) [
  | inl same ↦ (
      let p = bit_at_or a (2 ^ k) i in let l = bit_at-lt (2 ^ k) i in
      let here : bit_at a i ≡ 1 = ap (bit_at a) same ∙ e in omega arith)
  | inr other ↦ (let p = bit_at_or a (2 ^ k) i in let q = bit_at-pow_other k i other in omega arith)
])

-- a set of members meets that of one where it has it
meets_one : (a k : ℕ) → meets a (2 ^ k) ≡ (bit_at a k == 1)
meets_one a k = elim (cases_eq (bit_at a k) 1) [
  | inl one ↦ (
      let full : bit_and a (2 ^ k) ≡ 2 ^ k = and_pow a k ∙ (ap (λ b. b * 2 ^ k) one ∙ omega arith) in
      let some = pow_pos k in
      let none : (bit_and a (2 ^ k) == 0) ≡ false = ne_eqb (bit_and a (2 ^ k)) 0 (λ e. omega arith) in
      ap not none ∙ sym (eq-eqb (bit_at a k) 1 one))
  | inr not_one ↦ (
      let l = bit_at-lt a k in
      let zero_bit : bit_at a k ≡ 0 = omega arith in
      let empty : bit_and a (2 ^ k) ≡ 0 = and_pow a k ∙ (ap (λ b. b * 2 ^ k) zero_bit ∙ omega arith) in
      ap not (eq-eqb (bit_and a (2 ^ k)) 0 empty) ∙ sym (ne_eqb (bit_at a k) 1 not_one))
]

or_false : (a : Bool) → (a || false) ≡ a
or_false true = refl
or_false false = refl

or_true : (a : Bool) → (a || true) ≡ true
or_true true = refl
or_true false = refl

letter_acts : (letter : ℕ) (s : AllState) (small seen : Bool) → nat_lt letter 64 ≡ small → (bit_at s.seen letter == 1) ≡ seen → acts (of_letter letter) s ≡ next_of s letter
letter_acts letter s true false e f = rw (e, f) (λ i. record { seen = bit_or s.seen (2 ^ letter); dead = by_dead i })
  where
    by_dead : ((s.dead || false) || meets s.seen (2 ^ letter)) ≡ s.dead
    by_dead = ap (λ b. (s.dead || false) || b) (meets_one s.seen letter ∙ f) ∙ (or_false (s.dead || false) ∙ or_false s.dead)
letter_acts letter s true true e f = rw (e, f) (λ i. record { seen = or_same s.seen letter (eqb-true (bit_at s.seen letter) 1 f) i; dead = by_dead i })
  where
    by_dead : ((s.dead || false) || meets s.seen (2 ^ letter)) ≡ true
    by_dead = ap (λ b. (s.dead || false) || b) (meets_one s.seen letter ∙ f) ∙ or_true (s.dead || false)
letter_acts letter s false seen e f = rw e (λ i. record { seen = or_zero s.seen i; dead = by_dead i })
  where
    by_dead : ((s.dead || true) || meets s.seen 0) ≡ true
    by_dead = ap (λ b. b || meets s.seen 0) (or_true s.dead)

pub letter_is : (letter : ℕ) (s : AllState) → acts (of_letter letter) s ≡ next_of s letter
letter_is letter s = letter_acts letter s (nat_lt letter 64) (bit_at s.seen letter == 1) refl refl

pub letters_are : (letters : List ℕ) (s : AllState) (xs : List (Entry AllMap)) → map (λ e. e.act) xs ≡ map of_letter letters → acts_along acts s xs ≡ run s letters
letters_are [] s [] e = refl
letters_are [] s (x ∷ xs) e = absurd (cc)
letters_are (l ∷ letters) s [] e = absurd (cc)
letters_are (l ∷ letters) s (x ∷ xs) e =
    let here : x.act ≡ of_letter l = cc in
    let rest : map (λ (e : Entry AllMap). e.act) xs ≡ map of_letter letters = cc in
    letters_are letters (acts x.act s) xs rest ∙ ap (λ s. run s letters) (ap (λ m. acts m s) here ∙ letter_is l s)
