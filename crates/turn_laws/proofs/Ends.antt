-- The ends of lists.
use Rattle.std.proofs.Common.{◌≡◌, ℕ, ◌-◌, List, [], ◌∷◌, ◌++◌, length, map, take, drop, slice_get, Some, refl, sym, ap, ◌∙◌, arith, length-append, take_at, suc, zero}
use Rattle.std.proofs.lemmas.List.{length-map, map_push, drop-map}
use Rattle.circular_buffer.specs.Buffer.{keep_last, last_item}

module _ {X : Type 0} where
  slice_get-end : (xs : List X) (x : X) (i : ℕ) → i ≡ length xs → slice_get (xs ++ x ∷ []) i ≡ Some x
  slice_get-end [] x zero e = refl
  slice_get-end [] x (suc i) e = absurd (omega arith)
  slice_get-end (y ∷ xs) x zero e = absurd (omega arith)
  slice_get-end (y ∷ xs) x (suc i) e = slice_get-end xs x i (omega arith)

  one_less : (xs : List X) (x : X) → length (xs ++ x ∷ []) - 1 ≡ length xs
  one_less xs x = omega (arith, length-append xs (x ∷ []))

  last_item-end : (xs : List X) (x : X) → last_item (xs ++ x ∷ []) ≡ Some x
  last_item-end xs x = slice_get-end xs x (length (xs ++ x ∷ []) - 1) (one_less xs x)

  take-but_last : (xs : List X) (x : X) → take (length (xs ++ x ∷ []) - 1) (xs ++ x ∷ []) ≡ xs
  take-but_last xs x = take_at xs (x ∷ []) (length (xs ++ x ∷ []) - 1) (sym (one_less xs x))

  -- a list without its last item, and that
  pub cut_end : (x : X) (xs : List X) → (us : List X) × (y : X) × (x ∷ xs ≡ us ++ y ∷ [])
  cut_end x [] = ([], x, refl)
  cut_end x (y ∷ ys) = let on = cut_end y ys in (x ∷ on.0, on.1, ap (λ l. x ∷ l) on.2)

module _ {X Y : Type 0} (f : X → Y) where
  pub last_of : (us : List X) (x : X) → last_item (map f (us ++ x ∷ [])) ≡ Some (f x)
  last_of us x = ap last_item (map_push f us x) ∙ last_item-end (map f us) (f x)

  pub but_last : (us : List X) (x : X) → take (length (map f (us ++ x ∷ [])) - 1) (map f (us ++ x ∷ [])) ≡ map f us
  but_last us x = ap (λ (l : List Y). take (length l - 1) l) (map_push f us x) ∙ take-but_last (map f us) (f x)

  keep_map : (n : ℕ) (xs : List X) → map f (keep_last n xs) ≡ keep_last n (map f xs)
  keep_map n xs = sym (ap (λ (k : ℕ). drop (k - n) (map f xs)) (length-map xs f) ∙ drop-map f (length xs - n) xs)

  -- one more item at the end, where so many are kept
  pub kept_more : (n : ℕ) (xs : List X) (x : X) → keep_last n (map f xs ++ f x ∷ []) ≡ map f (keep_last n (xs ++ x ∷ []))
  kept_more n xs x = ap (keep_last n) (sym (map_push f xs x)) ∙ sym (keep_map n (xs ++ x ∷ []))
