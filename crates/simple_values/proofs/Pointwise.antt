-- Two lists compared item by item, from some place on.
use Rattle.std.proofs.Common.{◌≡◌, ℕ, ◌+◌, ◌<◌, ◌≤◌, suc, Bool, true, false, ◌&&◌, List, ◌∷◌, length, get_or, drop, refl, sym, ap, ◌∙◌, add-one, drop-cons}
use Rattle.std.specs.Cmp.Lexicographic.{pointwise}
use Rattle.std.proofs.Math.ListN.{drop_of_length-le}

and_false : (a b : Bool) → b ≡ false → (a && b) ≡ false
and_false true b e = e
and_false false b e = refl

module _ {T : Type 0} (E : T → T → Bool) where
  front : (xs : List T) (n : ℕ) (x : T) → n < length xs → x ≡ get_or xs n x → drop n xs ≡ x ∷ drop (n + 1) xs
  front xs n x h e = rw (add-one n) (drop-cons xs n x h ∙ ap (λ y. y ∷ drop (suc n) xs) (sym e))

  pub next_pair : (xs ys : List T) (n : ℕ) (x y : T) (b : Bool) → n < length xs → n < length ys → x ≡ get_or xs n x → y ≡ get_or ys n y → b ≡ E x y
      → pointwise E (drop n xs) (drop n ys) ≡ (b && pointwise E (drop (n + 1) xs) (drop (n + 1) ys))
  next_pair xs ys n x y b h k p q e = rw (front xs n x h p, front ys n y k q, e) refl

  pub no_pair : (xs ys : List T) (n : ℕ) → length xs ≤ n → length ys ≤ n → pointwise E (drop n xs) (drop n ys) ≡ true
  no_pair xs ys n h k = rw (drop_of_length-le xs h, drop_of_length-le ys k) refl
