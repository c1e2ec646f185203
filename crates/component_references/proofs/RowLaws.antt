-- Rows of references, and what they are where tables are closed.
use Rattle.std.proofs.Common.{◌≡◌, ℕ, zero, suc, ◌+◌, ◌-◌, ◌<◌, ◌≤◌, ◌⊎◌, inl, inr, List, [], ◌∷◌, ◌++◌, Option, None, Some, length, length-append, map, take, drop, get_or, slice_get, slice_index, refl, sym, ap, ◌∙◌, subst, arith}
use Rattle.std.specs.Prelude.{All, Contains}
use Rattle.std.specs.List.{flat_map}
use Rattle.std.proofs.lemmas.Bool.{cases_lt}
use Rattle.std.proofs.lemmas.Option.{get_or_from_slice_get, slice_get_cases, slice_get_within}
use Rattle.std.proofs.lemmas.List.{length-map, get_or-map, get_or_append_left, get_or-append-add, get_or_past}
use Rattle.std.proofs.lemmas.List.Elements.{All-nil, Contains-append_left, Contains-append_right}
use Rattle.component_references.specs.NumberedCircles.{refs_of, IsWithin}

-- what is among the parts is among all
pub Contains-flat_map : {X : Type 0} (f : X → List ℕ) (xs : List X) (k : ℕ) (d : X) (m : ℕ) → k < length xs → Contains (f (get_or xs k d)) m → Contains (flat_map f xs) m
Contains-flat_map f [] k d m h c = absurd (omega arith)
Contains-flat_map f (x ∷ xs) zero d m h c = Contains-append_left (f x) (flat_map f xs) m c
Contains-flat_map f (x ∷ xs) (suc k) d m h c = Contains-append_right (f x) (flat_map f xs) m (Contains-flat_map f xs k d m (omega arith) c)

pub Contains-map : (f : ℕ → ℕ) (xs : List ℕ) (k d : ℕ) → k < length xs → Contains (map f xs) (f (get_or xs k d))
Contains-map f xs k d h = (k, simp length-map h, get_or-map f xs k d (f (get_or xs k d)) h)

-- one row for each part, and others behind them
module _ {X : Type 0} (f : X → List ℕ) (xs : List X) where
  pub refs-alone : (n : ℕ) (part : X) → slice_get xs n ≡ Some part → refs_of (map f xs) n ≡ f part
  refs-alone n part e = get_or-map f xs n part [] (slice_get_within xs n part e) ∙ ap f (get_or_from_slice_get xs n part part e)

  pub refs-first : (rest : List (List ℕ)) (n : ℕ) (part : X) → slice_get xs n ≡ Some part → refs_of (map f xs ++ rest) n ≡ f part
  refs-first rest n part e =
      let h : n < length xs = slice_get_within xs n part e in
      let short : n < length (map f xs) = simp length-map h in
      get_or_append_left (map f xs) rest [] n short ∙ refs-alone n part e

  pub refs-second : {Y : Type 0} (g : Y → List ℕ) (ys : List Y) (n : ℕ) (part : Y) → slice_get ys n ≡ Some part → refs_of (map f xs ++ map g ys) (length xs + n) ≡ g part
  refs-second g ys n part e =
      let all : length (map f xs) ≡ length xs = simp length-map in
      ap (λ m. get_or (map f xs ++ map g ys) (m + n) []) (sym all) ∙ get_or-append-add (map f xs) (map g ys) n []
      ∙ get_or-map g ys n part [] (slice_get_within ys n part e) ∙ ap g (get_or_from_slice_get ys n part part e)

  pub length-alone : length (map f xs) ≡ length xs
  length-alone = simp length-map

  pub length-both : {Y : Type 0} (g : Y → List ℕ) (ys : List Y) → length (map f xs ++ map g ys) ≡ length xs + length ys
  length-both g ys = simp (length-append, length-map)

  -- every reference goes to a part that is there, where each row says so
  pub alone-within : ((n : ℕ) (part : X) → slice_get xs n ≡ Some part → All (λ y. y < length xs) (f part)) → IsWithin (map f xs)
  alone-within rows x = rw length-alone (on ((slice_get_cases xs x).1))
    where
      on : ((part : X) × (x < length xs) × (slice_get xs x ≡ Some part) × (get_or xs x part ≡ part)) ⊎ ((length xs ≤ x) × (slice_get xs x ≡ None)) → All (λ y. y < length xs) (refs_of (map f xs) x)
      on (inl p) = rw (refs-alone x p.0 p.2) (rows x p.0 p.2)
      on (inr p) = rw (get_or_past (map f xs) x [] (omega (arith, length-alone, p.0))) (All-nil (λ y. y < length xs))

  pub both-within : {Y : Type 0} (g : Y → List ℕ) (ys : List Y)
      → ((n : ℕ) (part : X) → slice_get xs n ≡ Some part → All (λ y. y < length xs + length ys) (f part))
      → ((n : ℕ) (part : Y) → slice_get ys n ≡ Some part → All (λ y. y < length xs + length ys) (g part))
      → IsWithin (map f xs ++ map g ys)
  both-within {Y} g ys rows more x = rw (length-both g ys) (on ((slice_get_cases xs x).1))
    where
      second : (n : ℕ) → ((part : Y) × (n < length ys) × (slice_get ys n ≡ Some part) × (get_or ys n part ≡ part)) ⊎ ((length ys ≤ n) × (slice_get ys n ≡ None)) → All (λ y. y < length xs + length ys) (refs_of (map f xs ++ map g ys) (length xs + n))
      second n (inl p) = rw (refs-second g ys n p.0 p.2) (more n p.0 p.2)
      second n (inr p) = rw (get_or_past (map f xs ++ map g ys) (length xs + n) [] (omega (arith, length-both g ys, p.0))) (All-nil (λ y. y < length xs + length ys))

      on : ((part : X) × (x < length xs) × (slice_get xs x ≡ Some part) × (get_or xs x part ≡ part)) ⊎ ((length xs ≤ x) × (slice_get xs x ≡ None)) → All (λ y. y < length xs + length ys) (refs_of (map f xs ++ map g ys) x)
      on (inl p) = rw (refs-first (map g ys) x p.0 p.2) (rows x p.0 p.2)
      on (inr p) =
          let e : length xs + (x - length xs) ≡ x = omega (arith, p.0) in
          subst (λ n. All (λ y. y < length xs + length ys) (refs_of (map f xs ++ map g ys) n)) e (second (x - length xs) ((slice_get_cases ys (x - length xs)).1))
