-- The elements of a number, in a list that is in the order of the numbers.
use Rattle.std.proofs.Common.{◌≡◌, ◌≢◌, ℕ, zero, suc, ◌-◌, ◌<◌, ◌≤◌, ◌==◌, List, [], ◌∷◌, map, take, drop, length, get_or, leb, ltb, Bool, true, false, refl, sym, ap, ◌∙◌, subst, arith}
use Rattle.std.specs.Prelude.{Contains}
use Rattle.std.specs.List.{filter}
use Rattle.std.specs.List.Sorted.{IsPartitionPoint}
use Rattle.std.proofs.lemmas.Bool.{eqb-true, eq-eqb, leb-true, leb-false, ltb-true, ltb-false}
use Rattle.std.proofs.lemmas.List.{get_or-take, length-take, take_rest}
use Rattle.schema_shape.specs.declared.forms.Shape.{Shape}
use Rattle.redefine_originals.proofs.InsideLaws.{filter-from, filter-has}
use Rattle.redefine_faults.specs.inside.Numbers.{of_number}

eqb-apart : (a b : ℕ) → a ≢ b → (a == b) ≡ false
eqb-apart a b n = by (a == b) refl
  where
    by : (r : Bool) → (a == b) ≡ r → (a == b) ≡ false
    by true e = absurd (n (eqb-true a b e))
    by false e = e

-- what passes a test stands before an end, from a start
filter-front : {X : Type 0} (p : X → Bool) (xs : List X) (end : ℕ) → ((i : ℕ) (d : X) → end ≤ i → i < length xs → p (get_or xs i d) ≡ false) → filter p xs ≡ filter p (take end xs)
filter-front p [] zero over = refl
filter-front p [] (suc end) over = refl
filter-front p (x ∷ xs) zero over = rw (over 0 x (omega arith) (omega arith)) (filter-front p xs 0 (λ i d l h. over (suc i) d (omega arith) (omega (arith, h))))
filter-front {X} p (x ∷ xs) (suc end) over = by (p x) refl (filter-front p xs end (λ i d l h. over (suc i) d (omega (arith, l)) (omega (arith, h))))
  where
    by : (b : Bool) → p x ≡ b → filter p xs ≡ filter p (take end xs) → filter p (x ∷ xs) ≡ filter p (x ∷ take end xs)
    by true e rest = rw e (ap (λ l. x ∷ l) rest)
    by false e rest = rw e rest

filter-back : {X : Type 0} (p : X → Bool) (xs : List X) (start : ℕ) → ((i : ℕ) (d : X) → i < start → i < length xs → p (get_or xs i d) ≡ false) → ((i : ℕ) (d : X) → start ≤ i → i < length xs → p (get_or xs i d) ≡ true)
    → filter p xs ≡ drop start xs
filter-back p [] zero under over = refl
filter-back p [] (suc start) under over = refl
filter-back p (x ∷ xs) zero under over =
    rw (over 0 x (omega arith) (omega arith)) (ap (λ l. x ∷ l) (filter-back p xs 0 (λ i d l h. absurd (omega (arith, l))) (λ i d l h. over (suc i) d (omega arith) (omega (arith, h)))))
filter-back p (x ∷ xs) (suc start) under over =
    rw (under 0 x (omega arith) (omega arith)) (filter-back p xs start (λ i d l h. under (suc i) d (omega (arith, l)) (omega (arith, h))) (λ i d l h. over (suc i) d (omega (arith, l)) (omega (arith, h))))

module _ {X : Type 0} (n : X → ℕ) (key : ℕ) (xs : List X) (end start : ℕ) where
  -- what has the key stands between two places
  number-part : IsPartitionPoint (λ x. leb (n x) key ≡ true) (λ x. leb (n x) key ≡ false) xs end → IsPartitionPoint (λ x. ltb (n x) key ≡ true) (λ x. ltb (n x) key ≡ false) (take end xs) start
      → filter (λ x. n x == key) xs ≡ drop start (take end xs)
  number-part front back = filter-front (λ x. n x == key) xs end over ∙ filter-back (λ x. n x == key) (take end xs) start under within
    where
      over : (i : ℕ) (d : X) → end ≤ i → i < length xs → (n (get_or xs i d) == key) ≡ false
      over i d l h = let m : key < n (get_or xs i d) = leb-false (n (get_or xs i d)) key (front.1 i d l h) in eqb-apart (n (get_or xs i d)) key (λ e. absurd (omega (arith, m, e)))

      under : (i : ℕ) (d : X) → i < start → i < length (take end xs) → (n (get_or (take end xs) i d) == key) ≡ false
      under i d l h = let m : n (get_or (take end xs) i d) < key = ltb-true (n (get_or (take end xs) i d)) key (back.0 i d (omega arith) l) in eqb-apart (n (get_or (take end xs) i d)) key (λ e. absurd (omega (arith, m, e)))

      within : (i : ℕ) (d : X) → start ≤ i → i < length (take end xs) → (n (get_or (take end xs) i d) == key) ≡ true
      within i d l h =
          let m : key ≤ n (get_or (take end xs) i d) = ltb-false (n (get_or (take end xs) i d)) key (back.1 i d l h) in
          let long = length-take end xs in
          let low : i < end = omega (arith, h, long) in
          let k : n (get_or xs i d) ≤ key = leb-true (n (get_or xs i d)) key (front.0 i d (omega arith) low) in
          let same : n (get_or (take end xs) i d) ≡ n (get_or xs i d) = ap n (get_or-take end xs i d low) in
          eq-eqb (n (get_or (take end xs) i d)) key (omega (arith, m, k, same))

filter-map : {X Y : Type 0} (f : X → Y) (p : Y → Bool) (xs : List X) → map f (filter (λ x. p (f x)) xs) ≡ filter p (map f xs)
filter-map f p [] = refl
filter-map {X} f p (x ∷ xs) = by (p (f x)) refl (filter-map f p xs)
  where
    by : (b : Bool) → p (f x) ≡ b → map f (filter (λ x. p (f x)) xs) ≡ filter p (map f xs) → map f (filter (λ x. p (f x)) (x ∷ xs)) ≡ filter p (map f (x ∷ xs))
    by true e rest = rw e (ap (λ l. f x ∷ l) rest)
    by false e rest = rw e rest

-- the part between two places, as it is read
pub number-slice : {X : Type 0} (f : X → Shape) (key : ℕ) (items xs ys : List X) (end start : ℕ) → ys ≡ items → xs ≡ items → IsPartitionPoint (λ x. leb (f x).item key ≡ true) (λ x. leb (f x).item key ≡ false) ys end
    → IsPartitionPoint (λ x. ltb (f x).item key ≡ true) (λ x. ltb (f x).item key ≡ false) (take end xs) start → map f (take (length (take end xs) - start) (drop start (take end xs))) ≡ of_number (map f items) key
number-slice f key items xs ys end start e g front back =
    ap (map f) (take_rest (take end xs) start ∙ sym (number-part (λ x. (f x).item) key xs end start (subst (λ l. IsPartitionPoint (λ x. leb (f x).item key ≡ true) (λ x. leb (f x).item key ≡ false) l end) (e ∙ sym g) front) back))
    ∙ filter-map f (λ s. s.item == key) xs ∙ ap (λ l. of_number (map f l) key) g

module _ (shapes : List Shape) (item : ℕ) (s : Shape) where
  pub number-has : Contains shapes s → s.item ≡ item → Contains (of_number shapes item) s
  number-has c e = filter-has (λ (t : Shape). t.item == item) shapes s c (eq-eqb s.item item e)

  pub number-from : Contains (of_number shapes item) s → Contains shapes s × (s.item ≡ item)
  number-from c = let f = filter-from (λ (t : Shape). t.item == item) shapes s c in (f.0, eqb-true s.item item f.1)
