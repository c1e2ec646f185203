-- Positions in lists, and how many items pass a test.
use Rattle.std.proofs.Common.{◌≡◌, ℕ, zero, suc, ◌+◌, ◌<◌, ◌≤◌, ◌==◌, ◌||◌, ◌⊎◌, inl, inr, Bool, true, false, cond, List, [], ◌∷◌, ◌++◌, Option, None, Some, if◌then◌else◌, drop, length, slice_get, refl, sym, ap, ◌∙◌, true≢false, arith}
use Rattle.std.specs.Prelude.{filter_map, slice_index_or}
use Rattle.std.specs.List.{list_any, position_from, cons_option}
use Rattle.std.proofs.lemmas.Bool.{eqb-true, eq-eqb}
use Rattle.std.proofs.lemmas.Option.{none-some, same_Some, slice_get_within}

abbrev pub one_if : Bool → ℕ
one_if b = if b then 1 else 0

pub not-both : {b : Bool} → b ≡ true → b ≡ false → ⊥
not-both {b} one other = true≢false (sym one ∙ other)

module _ {X : Type 0} where
  -- what stands in one of two lists that are joined
  pub split : (xs ys : List X) (n : ℕ) (x : X) → slice_get (xs ++ ys) n ≡ Some x → (slice_get xs n ≡ Some x) ⊎ ((k : ℕ) × (n ≡ length xs + k) × (slice_get ys k ≡ Some x))
  split [] ys n x at = inr (n, omega arith, at)
  split (y ∷ xs) ys zero x at = inl at
  split (y ∷ xs) ys (suc n) x at = elim (split xs ys n x at) [
    | inl front ↦ inl front
    | inr back ↦ inr (back.0, omega (arith, back.1), back.2)
  ]

  pub in-front : (xs ys : List X) (n : ℕ) (x : X) → slice_get xs n ≡ Some x → slice_get (xs ++ ys) n ≡ Some x
  in-front [] ys n x at = absurd (none-some x at)
  in-front (y ∷ xs) ys zero x at = at
  in-front (y ∷ xs) ys (suc n) x at = in-front xs ys n x at

  pub in-back : (xs ys : List X) (k : ℕ) → slice_get (xs ++ ys) (length xs + k) ≡ slice_get ys k
  in-back [] ys k = let same : 0 + k ≡ k = omega arith in ap (λ (n : ℕ). slice_get ys n) same
  in-back (x ∷ xs) ys k =
      let same : suc (length xs) + k ≡ suc (length xs + k) = omega arith in
      ap (λ (n : ℕ). slice_get (x ∷ (xs ++ ys)) n) same ∙ in-back xs ys k

  pub dropped : (m : ℕ) (xs : List X) (k : ℕ) → slice_get (drop m xs) k ≡ slice_get xs (m + k)
  dropped zero xs k = let same : k ≡ 0 + k = omega arith in ap (λ (n : ℕ). slice_get xs n) same
  dropped (suc m) [] k = refl
  dropped (suc m) (x ∷ xs) k =
      let same : suc (m + k) ≡ suc m + k = omega arith in
      dropped m xs k ∙ ap (λ (n : ℕ). slice_get (x ∷ xs) n) same

  pub index-some : (xs : List (Option X)) (n : ℕ) (x : X) → slice_index_or xs n None ≡ Some x → slice_get xs n ≡ Some (Some x)
  index-some [] n x is = absurd (none-some x is)
  index-some (y ∷ xs) zero x is = ap (λ (o : Option X). Some o) is
  index-some (y ∷ xs) (suc n) x is = index-some xs n x is

  -- ---- how many pass a test
  module _ (test : X → Bool) where
    abbrev pub count : List X → ℕ
    count [] = 0
    count (x ∷ xs) = one_if (test x) + count xs

    pub count-append : (xs ys : List X) → count (xs ++ ys) ≡ count xs + count ys
    count-append [] ys = omega arith
    count-append (x ∷ xs) ys = let rest = count-append xs ys in omega (arith, rest)

    pub counted : (xs : List X) (n : ℕ) (x : X) → slice_get xs n ≡ Some x → test x ≡ true → 1 ≤ count xs
    counted [] n x at is = absurd (none-some x at)
    counted (y ∷ xs) zero x at is =
        let one : one_if (test y) ≡ 1 = ap (λ (z : X). one_if (test z)) (same_Some y x at) ∙ ap one_if is in
        omega (arith, one)
    counted (y ∷ xs) (suc n) x at is = let rest = counted xs n x at is in omega (arith, rest)

    pub counted-once : (xs : List X) → count xs ≤ 1 → (m n : ℕ) (x y : X) → slice_get xs m ≡ Some x → slice_get xs n ≡ Some y → test x ≡ true → test y ≡ true → m ≡ n
    counted-once [] few m n x y one other is are = absurd (none-some x one)
    counted-once (z ∷ xs) few zero zero x y one other is are = refl
    counted-once (z ∷ xs) few zero (suc n) x y one other is are =
        let first : one_if (test z) ≡ 1 = ap (λ (w : X). one_if (test w)) (same_Some z x one) ∙ ap one_if is in
        absurd (omega (arith, few, first, counted xs n y other are))
    counted-once (z ∷ xs) few (suc m) zero x y one other is are =
        let first : one_if (test z) ≡ 1 = ap (λ (w : X). one_if (test w)) (same_Some z y other) ∙ ap one_if are in
        absurd (omega (arith, few, first, counted xs m x one is))
    counted-once (z ∷ xs) few (suc m) (suc n) x y one other is are =
        ap suc (counted-once xs (omega (arith, few)) m n x y one other is are)

  -- ---- what the items that a relation ties are
  module _ (Holds : X → X → Type 0) (Then : X → X → Type 0) where
    -- an item that holds another stands before it
    abbrev pub Nests : List X → Type 0
    Nests xs = (m n : ℕ) (x y : X) → slice_get xs m ≡ Some x → slice_get xs n ≡ Some y → Holds x y → (m < n) × Then x y

    pub nests-append : (xs ys : List X) → Nests xs → Nests ys
        → ((m n : ℕ) (x y : X) → slice_get xs m ≡ Some x → slice_get ys n ≡ Some y → Holds x y → Then x y)
        → ((m n : ℕ) (x y : X) → slice_get ys m ≡ Some x → slice_get xs n ≡ Some y → Holds x y → ⊥) → Nests (xs ++ ys)
    nests-append xs ys front back across never m n x y one other holds = by (split xs ys m x one) (split xs ys n y other)
      where
        by : (slice_get xs m ≡ Some x) ⊎ ((k : ℕ) × (m ≡ length xs + k) × (slice_get ys k ≡ Some x)) → (slice_get xs n ≡ Some y) ⊎ ((k : ℕ) × (n ≡ length xs + k) × (slice_get ys k ≡ Some y)) → (m < n) × Then x y
        by (inl a) (inl b) = front m n x y a b holds
        by (inl a) (inr b) = (omega (arith, slice_get_within xs m x a, b.1), across m b.0 x y a b.2 holds)
        by (inr a) (inl b) = absurd (never a.0 n x y a.2 b holds)
        by (inr a) (inr b) = let both = back a.0 b.0 x y a.2 b.2 holds in (omega (arith, a.1, b.1, both.0), both.1)

  -- ---- the first that passes a test
  module _ (test : X → Bool) where
    pub position-is : (i q : ℕ) (xs : List X) → position_from test i xs ≡ Some q → (k : ℕ) × (x : X) × (q ≡ i + k) × (slice_get xs k ≡ Some x) × (test x ≡ true)
    position-is i q [] is = absurd (none-some q is)
    position-is i q (x ∷ xs) is = by (test x) refl (position-is (i + 1) q xs)
      where
        by : (b : Bool) → test x ≡ b → (position_from test (i + 1) xs ≡ Some q → (k : ℕ) × (y : X) × (q ≡ i + 1 + k) × (slice_get xs k ≡ Some y) × (test y ≡ true))
            → (k : ℕ) × (y : X) × (q ≡ i + k) × (slice_get (x ∷ xs) k ≡ Some y) × (test y ≡ true)
        by true t rest =
            let here : i ≡ q = same_Some i q (sym (ap (λ (b : Bool). cond b (Some i) (position_from test (i + 1) xs)) t) ∙ is) in
            (0, x, omega (arith, here), refl, t)
        by false t rest =
            let later = rest (sym (ap (λ (b : Bool). cond b (Some i) (position_from test (i + 1) xs)) t) ∙ is) in
            (suc later.0, later.1, omega (arith, later.2), later.3, later.4)

    pub position-at : (i : ℕ) (xs : List X) (n : ℕ) (x : X) → slice_get xs n ≡ Some x → test x ≡ true → (k : ℕ) × (y : X) × (position_from test i xs ≡ Some (i + k)) × (slice_get xs k ≡ Some y) × (test y ≡ true)
    position-at i [] n x at is = absurd (none-some x at)
    position-at i (y ∷ xs) zero x at is =
        let t : test y ≡ true = ap test (same_Some y x at) ∙ is in
        let here : i ≡ i + 0 = omega arith in
        (0, y, ap (λ (b : Bool). cond b (Some i) (position_from test (i + 1) xs)) t ∙ ap (λ (n : ℕ). Some n) here, refl, t)
    position-at i (y ∷ xs) (suc n) x at is = by (test y) refl (position-at (i + 1) xs n x at is)
      where
        by : (b : Bool) → test y ≡ b → ((k : ℕ) × (z : X) × (position_from test (i + 1) xs ≡ Some (i + 1 + k)) × (slice_get xs k ≡ Some z) × (test z ≡ true))
            → (k : ℕ) × (z : X) × (position_from test i (y ∷ xs) ≡ Some (i + k)) × (slice_get (y ∷ xs) k ≡ Some z) × (test z ≡ true)
        by true t rest =
            let here : i ≡ i + 0 = omega arith in
            (0, y, ap (λ (b : Bool). cond b (Some i) (position_from test (i + 1) xs)) t ∙ ap (λ (n : ℕ). Some n) here, refl, t)
        by false t rest =
            let on : i + 1 + rest.0 ≡ i + suc rest.0 = omega arith in
            (suc rest.0, rest.1, ap (λ (b : Bool). cond b (Some i) (position_from test (i + 1) xs)) t ∙ rest.2 ∙ ap (λ (n : ℕ). Some n) on, rest.3, rest.4)

-- ---- what is looked up
abbrev pub holds : ℕ → List ℕ → Bool
holds key items = list_any (λ item. item == key) items

pub holds-rest : (key item : ℕ) (items : List ℕ) → holds key items ≡ true → holds key (item ∷ items) ≡ true
holds-rest key item items there = by (item == key)
  where
    by : (b : Bool) → (b || holds key items) ≡ true
    by true = refl
    by false = there

module _ (look : ℕ → Option ℕ) (place : ℕ) where
  pub looked : (items : List ℕ) → holds place (filter_map look items) ≡ true → (item : ℕ) × (holds item items ≡ true) × (look item ≡ Some place)
  looked [] is = absurd (not-both is refl)
  looked (item ∷ items) is = by (look item) refl is (looked items)
    where
      own : holds item (item ∷ items) ≡ true
      own = ap (λ (b : Bool). b || holds item items) (eq-eqb item item refl)

      further : (holds place (filter_map look items) ≡ true → (other : ℕ) × (holds other items ≡ true) × (look other ≡ Some place)) → holds place (filter_map look items) ≡ true
          → (other : ℕ) × (holds other (item ∷ items) ≡ true) × (look other ≡ Some place)
      further rest is = let found = rest is in (found.0, holds-rest found.0 item items found.1, found.2)

      or : (p : ℕ) (b : Bool) → (p == place) ≡ b → look item ≡ Some p → (b || holds place (filter_map look items)) ≡ true
          → (holds place (filter_map look items) ≡ true → (other : ℕ) × (holds other items ≡ true) × (look other ≡ Some place)) → (other : ℕ) × (holds other (item ∷ items) ≡ true) × (look other ≡ Some place)
      or p true e at is rest = (item, own, at ∙ ap (λ (n : ℕ). Some n) (eqb-true p place e))
      or p false e at is rest = further rest is

      by : (o : Option ℕ) → look item ≡ o → holds place (cons_option o (filter_map look items)) ≡ true
          → (holds place (filter_map look items) ≡ true → (other : ℕ) × (holds other items ≡ true) × (look other ≡ Some place)) → (other : ℕ) × (holds other (item ∷ items) ≡ true) × (look other ≡ Some place)
      by None at is rest = further rest is
      by (Some p) at is rest = or p (p == place) refl at is rest

  pub looks : (items : List ℕ) (item : ℕ) → holds item items ≡ true → look item ≡ Some place → holds place (filter_map look items) ≡ true
  looks [] item there at = absurd (not-both there refl)
  looks (first ∷ items) item there at = by (first == item) refl there (λ is. looks items item is at)
    where
      more : (o : Option ℕ) → holds place (filter_map look items) ≡ true → holds place (cons_option o (filter_map look items)) ≡ true
      more None is = is
      more (Some p) is = holds-rest place p (filter_map look items) is

      by : (b : Bool) → (first == item) ≡ b → (b || holds item items) ≡ true → (holds item items ≡ true → holds place (filter_map look items) ≡ true) → holds place (filter_map look (first ∷ items)) ≡ true
      by true e there rest =
          let found : look first ≡ Some place = ap look (eqb-true first item e) ∙ at in
          ap (λ (o : Option ℕ). holds place (cons_option o (filter_map look items))) found ∙ ap (λ (b : Bool). b || holds place (filter_map look items)) (eq-eqb place place refl)
      by false e there rest = more (look first) (rest there)
