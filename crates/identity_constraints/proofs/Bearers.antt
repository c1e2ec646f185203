-- Counts of bearers in a list.
use Rattle.std.proofs.Common.{◌≡◌, ◌≢◌, ◌⊎◌, ℕ, ◌+◌, List, [], ◌∷◌, refl, sym, ap, ◌∙◌, Bool, true, false, nat_eq, inl, inr, arith, if◌then◌else◌, ◌&&◌, Some}
use Rattle.std.specs.Bool.{Decides}
use Rattle.std.proofs.lemmas.Bool.Decides.{nat_tests}
use Rattle.identity_constraints.specs.Counting.{weight, Has, Lacks, Distinct, bearers, told}

pub same_or_other : (m n : ℕ) → (m ≡ n) ⊎ (m ≢ n)
same_or_other m n =
    elim (nat_eq m n) as (λ b. nat_eq m n ≡ b → (m ≡ n) ⊎ (m ≢ n)) [
      | true ↦ λ e. inl (grind (arith, nat_tests))
      | false ↦ λ e. inr (grind (arith, nat_tests))
    ] refl

eq-refl : (n : ℕ) → nat_eq n n ≡ true
eq-refl n = grind (arith, nat_tests)

eq-off : (m n : ℕ) → m ≢ n → nat_eq m n ≡ false
eq-off m n h = grind (arith, nat_tests)

lacks-has : (x y : ℕ) (xs : List ℕ) → Lacks x xs → Has y xs → y ≢ x
lacks-has x y [] l h = absurd h
lacks-has x y (z ∷ zs) l h = elim h [ inl e ↦ λ k. l.0 (e ∙ k) | inr k ↦ lacks-has x y zs l.1 k ]

pub bearers-alike : (f g : ℕ → Bool) (xs : List ℕ) → ((c : ℕ) → Has c xs → g c ≡ f c) → bearers g xs ≡ bearers f xs
bearers-alike f g [] h = refl
bearers-alike f g (c ∷ cs) h =
    ap (λ b. weight b + bearers g cs) (h c (inl refl)) ∙ ap (λ r. weight (f c) + r) (bearers-alike f g cs (λ d k. h d (inr k)))

-- one item of the list is another bearer
pub bearers-one : (f g : ℕ → Bool) (n : ℕ) (xs : List ℕ) → Distinct xs → Has n xs → ((c : ℕ) → c ≢ n → g c ≡ f c)
    → bearers g xs + weight (f n) ≡ bearers f xs + weight (g n)
bearers-one f g n [] d h other = absurd h
bearers-one f g n (c ∷ cs) d h other =
    elim (same_or_other c n) [
      | inl e ↦
          let rest : bearers g cs ≡ bearers f cs = bearers-alike f g cs (λ x k. other x (λ z. lacks-has c x cs d.0 k (z ∙ sym e))) in
          let one : weight (f c) ≡ weight (f n) = ap (λ m. weight (f m)) e in
          let two : weight (g c) ≡ weight (g n) = ap (λ m. weight (g m)) e in
          omega arith
      | inr o ↦
          let later : Has n cs = elim h [ inl y ↦ absurd (o y) | inr y ↦ y ] in
          let rest = bearers-one f g n cs d.1 later other in
          let one : weight (g c) ≡ weight (f c) = ap weight (other c o) in
          omega arith
    ]

and-false : (b : Bool) → (b && false) ≡ false
and-false true = refl
and-false false = refl

module _ {Y : Type 0} (eq : Y → Y → Bool) (decides : (x y : Y) → Decides (eq x y) (x ≡ y)) where
  what_same : (x y : Y) (b : Bool) → eq x y ≡ b → (x ≡ y) ⊎ (x ≢ y)
  what_same x y true e = inl ((decides x y).0 e)
  what_same x y false e = inr (λ same. let yes = (decides x y).1 same in cc)

  -- the two are one spot, or not
  pub spot : (n : ℕ) (x : Y) (m : ℕ) (y : Y) → ((n ≡ m) × (x ≡ y)) ⊎ (n ≡ m → x ≡ y → ⊥)
  spot n x m y =
      elim (same_or_other n m) [
        | inl e ↦ elim (what_same x y (eq x y) refl) [ inl z ↦ inl (e, z) | inr o ↦ inr (λ a b. o b) ]
        | inr o ↦ inr (λ a b. o a)
      ]

  what_refl : (x : Y) → eq x x ≡ true
  what_refl x = (decides x x).1 refl

  what_off : (x y : Y) (b : Bool) → eq x y ≡ b → x ≢ y → eq x y ≡ false
  what_off x y true e o = absurd (o ((decides x y).0 e))
  what_off x y false e o = e

  pub told-here : (q : ℕ) (x : Y) (b : Bool) → told eq (Some q) x b q x ≡ weight b
  told-here q x b = ap (λ t. if t && eq x x then weight b else 0) (eq-refl q) ∙ ap (λ t. if t then weight b else 0) (what_refl x)

  pub told-off : (q : ℕ) (x : Y) (b : Bool) (m : ℕ) (y : Y) → (q ≡ m → x ≡ y → ⊥) → told eq (Some q) x b m y ≡ 0
  told-off q x b m y h =
      elim (same_or_other q m) [
        | inl e ↦ ap (λ t. if nat_eq q m && t then weight b else 0) (what_off x y (eq x y) refl (h e)) ∙ ap (λ t. if t then weight b else 0) (and-false (nat_eq q m))
        | inr o ↦ ap (λ t. if t && eq x y then weight b else 0) (eq-off q m o)
      ]
