-- Members of lists.
use Rattle.std.proofs.Common.{◌≡◌, ℕ, zero, suc, ◌+◌, ◌<◌, ◌⊎◌, List, [], ◌∷◌, length, map, get_or, take, Some, slice_get, refl, sym, ap, ◌∙◌, inl, inr, arith, Result, Ok, Err}
use Rattle.std.specs.Prelude.{Contains, IfOk}
use Rattle.std.proofs.lemmas.List.{take_more}
use Rattle.std.proofs.lemmas.List.Elements.{Contains-append_left, Contains-append_right, Contains-append_cases}
use Rattle.std.proofs.lemmas.Option.{get_or_from_slice_get, slice_get-get_or, slice_get_within}

pub contains_head : {X : Type 0} (x : X) (xs : List X) (q : X) → q ≡ x → Contains (x ∷ xs) q
contains_head x xs q e = (0, omega arith, sym e)

pub contains_tail : {X : Type 0} (x : X) (xs : List X) (q : X) → Contains xs q → Contains (x ∷ xs) q
contains_tail x xs q (k, l, e) = (suc k, omega arith, e)

pub contains_cases : {X : Type 0} (x : X) (xs : List X) (q : X) → Contains (x ∷ xs) q → (q ≡ x) ⊎ Contains xs q
contains_cases x xs q (zero, l, e) = inl (sym e)
contains_cases x xs q (suc k, l, e) = inr (k, omega arith, e)

pub none_contained : {X : Type 0} (q : X) → Contains [] q → ⊥
none_contained q (k, l, e) = omega arith

pub contains_one : {X : Type 0} (x y : X) → Contains (x ∷ []) y → y ≡ x
contains_one x y (zero, l, e) = sym e
contains_one x y (suc k, l, e) = absurd (omega arith)

-- the first items of a list, and one more
pub taken_cases : {X : Type 0} (xs : List X) (i : ℕ) (y d : X) → i < length xs → Contains (take (i + 1) xs) y → Contains (take i xs) y ⊎ (y ≡ get_or xs i d)
taken_cases xs i y d l c = elim (Contains-append_cases (take i xs) (get_or xs i d ∷ []) y (rw (take_more xs i d l) at c)) [
  | inl a ↦ inl a
  | inr b ↦ inr (contains_one (get_or xs i d) y b)
]

pub taken_from : {X : Type 0} (xs : List X) (i : ℕ) (y d : X) → i < length xs → Contains (take i xs) y ⊎ (y ≡ get_or xs i d) → Contains (take (i + 1) xs) y
taken_from xs i y d l h =
    rw (take_more xs i d l) (elim h [
      | inl a ↦ Contains-append_left (take i xs) (get_or xs i d ∷ []) y a
      | inr b ↦ Contains-append_right (take i xs) (get_or xs i d ∷ []) y (0, omega arith, sym b)
    ])

pub contains_map : {X Y : Type 0} (f : X → Y) (xs : List X) (y : Y) → Contains (map f xs) y → (x : X) × Contains xs x × (f x ≡ y)
contains_map f [] y (k, l, e) = absurd (omega arith)
contains_map f (x ∷ xs) y (zero, l, e) = (x, contains_head x xs x refl, e)
contains_map f (x ∷ xs) y (suc k, l, e) = let r = contains_map f xs y (k, omega arith, e) in (r.0, contains_tail x xs r.0 r.1, r.2)

pub map_contains : {X Y : Type 0} (f : X → Y) (xs : List X) (x : X) → Contains xs x → Contains (map f xs) (f x)
map_contains f [] x c = absurd (none_contained x c)
map_contains f (z ∷ xs) x c = elim (contains_cases z xs x c) [
  | inl e ↦ contains_head (f z) (map f xs) (f x) (ap f e)
  | inr d ↦ contains_tail (f z) (map f xs) (f x) (map_contains f xs x d)
]

pub contains_get : {X : Type 0} (xs : List X) (n : ℕ) (x : X) → slice_get xs n ≡ Some x → Contains xs x
contains_get xs n x e = (n, slice_get_within xs n x e, get_or_from_slice_get xs n x x e)

pub get_contains : {X : Type 0} (xs : List X) (x : X) → Contains xs x → (n : ℕ) × (slice_get xs n ≡ Some x)
get_contains xs x (k, l, e) = (k, slice_get-get_or xs k x l ∙ ap Some e)

pub then_ok : {A E : Type 0} (r : Result A E) (P Q : A → Type 0) → IfOk r P → ((x : A) → P x → Q x) → IfOk r Q
then_ok (Ok x) P Q h f = f x h
then_ok (Err e) P Q h f = tt

pub item_in : {X : Type 0} (xs : List X) (i : ℕ) (x : X) → i < length xs → x ≡ get_or xs i x → Contains xs x
item_in xs i x l e = (i, l, sym e)
