-- What stands in an element, and what is found among some.
use Rattle.std.proofs.Common.{◌≡◌, ℕ, zero, suc, ◌<◌, ◌==◌, ◌⊎◌, inl, inr, List, [], ◌∷◌, map, length, get_or, Bool, true, false, Some, refl, sym, subst, arith}
use Rattle.std.specs.Prelude.{Contains}
use Rattle.std.specs.List.{list_any, find, filter}
use Rattle.std.specs.Option.{option_map}
use Rattle.std.proofs.lemmas.Bool.{false≢true, eqb-true, eq-eqb}
use Rattle.std.proofs.lemmas.Option.{none-some, same_Some}
use Rattle.std.proofs.lemmas.List.Folds.{list_any_at}
use Rattle.std.proofs.lemmas.List.Elements.{Contains-push, Contains-push_cases, Contains-append_left, Contains-append_right, Contains-append_cases}
use Rattle.schema_shape.specs.declared.forms.Shape.{Shape}
use Rattle.redefine_originals.specs.Versions.{inside}

pub contains-first : {X : Type 0} (x : X) (xs : List X) → Contains (x ∷ xs) x
contains-first x xs = Contains-append_left (x ∷ []) xs x (Contains-push [] x)

pub contains-rest : {X : Type 0} (x y : X) (xs : List X) → Contains xs y → Contains (x ∷ xs) y
contains-rest x y xs c = Contains-append_right (x ∷ []) xs y c

pub contains-cases : {X : Type 0} (x y : X) (xs : List X) → Contains (x ∷ xs) y → (x ≡ y) ⊎ Contains xs y
contains-cases x y xs c = elim (Contains-append_cases (x ∷ []) xs y c) [
  | inl one ↦ elim (Contains-push_cases [] x y one) [ inl none ↦ absurd (omega (arith, none.1)) | inr same ↦ inl same ]
  | inr more ↦ inr more
]

pub filter-from : {X : Type 0} (p : X → Bool) (xs : List X) (x : X) → Contains (filter p xs) x → Contains xs x × (p x ≡ true)
filter-from p [] x c = absurd (omega (arith, c.1))
filter-from {X} p (y ∷ xs) x c = by (p y) refl (filter-from p xs x)
  where
    by : (b : Bool) → p y ≡ b → (Contains (filter p xs) x → Contains xs x × (p x ≡ true)) → Contains (y ∷ xs) x × (p x ≡ true)
    by true e rest = elim (contains-cases y x (filter p xs) (rw e at c)) [
      | inl same ↦ (subst (Contains (y ∷ xs)) same (contains-first y xs), subst (λ z. p z ≡ true) same e)
      | inr more ↦ (let r = rest more in (contains-rest y x xs r.0, r.1))
    ]
    by false e rest = let r = rest (rw e at c) in (contains-rest y x xs r.0, r.1)

filter-place : {X : Type 0} (p : X → Bool) (xs : List X) (k : ℕ) (d : X) → k < length xs → p (get_or xs k d) ≡ true → Contains (filter p xs) (get_or xs k d)
filter-place p [] k d h e = absurd (omega (arith, h))
filter-place p (x ∷ xs) zero d h e = rw e (contains-first x (filter p xs))
filter-place {X} p (x ∷ xs) (suc k) d h e = by (p x) refl (filter-place p xs k d (omega (arith, h)) e)
  where
    by : (b : Bool) → p x ≡ b → Contains (filter p xs) (get_or xs k d) → Contains (filter p (x ∷ xs)) (get_or xs k d)
    by true t rest = rw t (contains-rest x (get_or xs k d) (filter p xs) rest)
    by false t rest = rw t rest

pub filter-has : {X : Type 0} (p : X → Bool) (xs : List X) (x : X) → Contains xs x → p x ≡ true → Contains (filter p xs) x
filter-has p xs x c e = subst (Contains (filter p xs)) c.2 (filter-place p xs c.0 x c.1 (subst (λ y. p y ≡ true) (sym c.2) e))

pub any-from : (n : ℕ) (xs : List ℕ) → list_any (λ i. i == n) xs ≡ true → Contains xs n
any-from n [] e = absurd (false≢true e)
any-from n (x ∷ xs) e = by (x == n) refl (any-from n xs)
  where
    by : (b : Bool) → (x == n) ≡ b → (list_any (λ i. i == n) xs ≡ true → Contains xs n) → Contains (x ∷ xs) n
    by true t rest = subst (Contains (x ∷ xs)) (eqb-true x n t) (contains-first x xs)
    by false f rest = contains-rest x n xs (rest (rw f at e))

module _ (shapes : List Shape) (parent s : Shape) where
  pub inside-has : Contains shapes s → Contains parent.members s.item → Contains (inside shapes parent) s
  inside-has c m =
      filter-has (λ (t : Shape). list_any (λ item. item == t.item) parent.members) shapes s c
      (list_any_at (λ item. item == s.item) parent.members m.0 s.item m.1 (eq-eqb (get_or parent.members m.0 s.item) s.item m.2))

  pub inside-from : Contains (inside shapes parent) s → Contains shapes s × Contains parent.members s.item
  inside-from c = let f = filter-from (λ (t : Shape). list_any (λ item. item == t.item) parent.members) shapes s c in (f.0, any-from s.item parent.members f.1)

pub find-true : {X : Type 0} (p : X → Bool) (xs : List X) (x : X) → find p xs ≡ Some x → p x ≡ true
find-true p [] x e = absurd (none-some x e)
find-true {X} p (y ∷ xs) x e = by (p y) refl (find-true p xs x)
  where
    by : (b : Bool) → p y ≡ b → (find p xs ≡ Some x → p x ≡ true) → p x ≡ true
    by true t rest = let here : Some y ≡ Some x = rw t at e in subst (λ z. p z ≡ true) (same_Some y x here) t
    by false t rest = rest (rw t at e)

pub find-map : {X Y : Type 0} (f : X → Y) (p : Y → Bool) (xs : List X) → option_map f (find (λ x. p (f x)) xs) ≡ find p (map f xs)
find-map f p [] = refl
find-map {X} {Y} f p (x ∷ xs) = by (p (f x)) refl (find-map f p xs)
  where
    by : (b : Bool) → p (f x) ≡ b → option_map f (find (λ x. p (f x)) xs) ≡ find p (map f xs) → option_map f (find (λ x. p (f x)) (x ∷ xs)) ≡ find p (map f (x ∷ xs))
    by true e rest = rw e refl
    by false e rest = rw e rest
