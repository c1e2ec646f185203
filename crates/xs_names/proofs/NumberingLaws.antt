-- Laws of numbering.
use Rattle.std.proofs.Common.{◌≡◌, ℕ, ◌+◌, ◌<◌, ◌≤◌, ◌⊎◌, inl, inr, ◌&&◌, ◌==◌, bytes_eq, Bool, true, false, cond, ◌||◌, List, [], ◌∷◌, ◌++◌, length, map, Option, Some, None, slice_get, position, refl, sym, ap, subst, ◌∙◌, true≢false, if◌then◌else◌, arith, zero, suc}
use Rattle.std.specs.Bool.{Decides}
use Rattle.std.specs.List.{list_any, position_from}
use Rattle.std.proofs.lemmas.Iterator.Adapters.{position_from-zero}
use Rattle.std.proofs.lemmas.Bool.Decides.{Decides-eqb}
use Rattle.std.proofs.lemmas.List.{append-nil, append_assoc, length-append}
use Rattle.std.proofs.lemmas.Option.{slice_get_within}
use Rattle.std.proofs.lemmas.Slice.Eq.{bytes_eq-Decides}
use Rattle.xs_names.specs.Names.{same_name}
use Rattle.xs_names.specs.Numbering.{number_of, with_item, same_pair, HasNoRepeats, Begins}

-- a test after a view is a test on the list of views
pub position_from-map : {K X : Type 0} (view : K → X) (test : X → Bool) (i : ℕ) (ks : List K) → position_from (λ k. test (view k)) i ks ≡ position_from test i (map view ks)
position_from-map view test i [] = refl
position_from-map view test i (k ∷ ks) = ap (λ r. cond (test (view k)) (Some i) r) (position_from-map view test (i + 1) ks)

pub list_any-map : {K X : Type 0} (view : K → X) (test : X → Bool) (ks : List K) → list_any (λ k. test (view k)) ks ≡ list_any test (map view ks)
list_any-map view test [] = refl
list_any-map view test (k ∷ ks) = ap (λ r. test (view k) || r) (list_any-map view test ks)

pub position-map : {K X : Type 0} (view : K → X) (test : X → Bool) (ks : List K) → position (λ k. test (view k)) ks ≡ position_from test 0 (map view ks)
position-map view test ks = position_from-zero (λ k. test (view k)) ks ∙ position_from-map view test 0 ks

module _ {X : Type 0} (test : X → Bool) where
  -- one step past an item
  position_from-past : (i : ℕ) (x : X) (xs : List X) → test x ≡ false → position_from test i (x ∷ xs) ≡ position_from test (i + 1) xs
  position_from-past i x xs e = rw e refl

  position_from-here : (i : ℕ) (x : X) (xs : List X) → test x ≡ true → position_from test i (x ∷ xs) ≡ Some i
  position_from-here i x xs e = rw e refl

  -- no position: no item passes
  pub list_any-absent : (i : ℕ) (xs : List X) → position_from test i xs ≡ None → list_any test xs ≡ false
  list_any-absent i [] e = refl
  list_any-absent i (x ∷ xs) e = by (test x) refl (λ n. list_any-absent (i + 1) xs (sym (position_from-past i x xs n) ∙ e))
    where
      by : (b : Bool) → test x ≡ b → (test x ≡ false → list_any test xs ≡ false) → list_any test (x ∷ xs) ≡ false
      by true t rest = let here = position_from-here i x xs t in cc
      by false t rest = rw t (rest t)

  pub list_any-present : (i n : ℕ) (xs : List X) → position_from test i xs ≡ Some n → list_any test xs ≡ true
  list_any-present i n [] e = cc
  list_any-present i n (x ∷ xs) e = by (test x) refl (λ m. list_any-present (i + 1) n xs (sym (position_from-past i x xs m) ∙ e))
    where
      by : (b : Bool) → test x ≡ b → (test x ≡ false → list_any test xs ≡ true) → list_any test (x ∷ xs) ≡ true
      by true t rest = rw t refl
      by false t rest = rw t (rest t)

  -- the item at the position passes
  pub slice_get-position_from : (i n : ℕ) (xs : List X) → position_from test i xs ≡ Some n → (m : ℕ) × (x : X) × (n ≡ i + m) × (slice_get xs m ≡ Some x) × (test x ≡ true)
  slice_get-position_from i n [] e = cc
  slice_get-position_from i n (x ∷ xs) e = by (test x) refl (λ m. slice_get-position_from (i + 1) n xs (sym (position_from-past i x xs m) ∙ e))
    where
      Found : Type 0
      Found = (m : ℕ) × (y : X) × (n ≡ i + m) × (slice_get (x ∷ xs) m ≡ Some y) × (test y ≡ true)

      by : (b : Bool) → test x ≡ b → (test x ≡ false → (m : ℕ) × (y : X) × (n ≡ i + 1 + m) × (slice_get xs m ≡ Some y) × (test y ≡ true)) → (m : ℕ) × (y : X) × (n ≡ i + m) × (slice_get (x ∷ xs) m ≡ Some y) × (test y ≡ true)
      by true t rest = let here = position_from-here i x xs t in let same : n ≡ i = cc in (zero, x, omega arith, refl, t)
      by false t rest = let r = rest t in (suc r.0, r.1, omega (arith, r.2), r.3, r.4)

  -- where no item passes, a new one that does has the next number
  pub position_from-new : (i : ℕ) (xs : List X) (x : X) → list_any test xs ≡ false → test x ≡ true → position_from test i (xs ++ x ∷ []) ≡ Some (i + length xs)
  position_from-new i [] x e t = position_from-here i x [] t ∙ ap Some (omega arith)
  position_from-new i (y ∷ ys) x e t = by (test y) refl (λ n. position_from-new (i + 1) ys x n t)
    where
      by : (b : Bool) → test y ≡ b → (list_any test ys ≡ false → position_from test (i + 1) (ys ++ x ∷ []) ≡ Some (i + 1 + length ys)) → position_from test i ((y ∷ ys) ++ x ∷ []) ≡ Some (i + length (y ∷ ys))
      by true s rest = absurd (true≢false (sym (ap (λ b. b || list_any test ys) s) ∙ e))
      by false s rest = position_from-past i y (ys ++ x ∷ []) s ∙ rest (sym (ap (λ b. b || list_any test ys) s) ∙ e) ∙ ap Some (omega arith)

  -- an item that is there keeps its number
  pub position_from-kept : (i n : ℕ) (xs ys : List X) → position_from test i xs ≡ Some n → position_from test i (xs ++ ys) ≡ Some n
  position_from-kept i n [] ys e = cc
  position_from-kept i n (x ∷ xs) ys e = by (test x) refl (λ m. position_from-kept (i + 1) n xs ys (sym (position_from-past i x xs m) ∙ e))
    where
      by : (b : Bool) → test x ≡ b → (test x ≡ false → position_from test (i + 1) (xs ++ ys) ≡ Some n) → position_from test i ((x ∷ xs) ++ ys) ≡ Some n
      by true t rest = position_from-here i x (xs ++ ys) t ∙ sym (position_from-here i x xs t) ∙ e
      by false t rest = position_from-past i x (xs ++ ys) t ∙ rest t

-- `==` at pairs of numbers, and at names
both : (a b : Bool) → a && b ≡ true → (a ≡ true) × (b ≡ true)
both true true e = (refl, refl)
both true false e = cc
both false b e = cc

pub same_pair-Decides : (a b : ℕ × ℕ) → Decides (same_pair a b) (a ≡ b)
same_pair-Decides a b = (same, λ e. ap (same_pair a) (sym e) ∙ self)
  where
    same : same_pair a b ≡ true → a ≡ b
    same t =
        let e = both (a.0 == b.0) (a.1 == b.1) t in
        let first : a.0 ≡ b.0 = (Decides-eqb a.0 b.0).0 e.0 in
        let second : a.1 ≡ b.1 = (Decides-eqb a.1 b.1).0 e.1 in
        λ i. (first i, second i)

    self : same_pair a a ≡ true
    self = let first : (a.0 == a.0) ≡ true = (Decides-eqb a.0 a.0).1 refl in ap (λ r. r && (a.1 == a.1)) first ∙ (Decides-eqb a.1 a.1).1 refl

pub same_name-Decides : (a b : ℕ × List ℕ) → Decides (same_name a b) (a ≡ b)
same_name-Decides a b = (same, λ e. ap (same_name a) (sym e) ∙ self)
  where
    same : same_name a b ≡ true → a ≡ b
    same t =
        let e = both (a.0 == b.0) (bytes_eq a.1 b.1) t in
        let first : a.0 ≡ b.0 = (Decides-eqb a.0 b.0).0 e.0 in
        let second : a.1 ≡ b.1 = (bytes_eq-Decides a.1 b.1).0 e.1 in
        λ i. (first i, second i)

    self : same_name a a ≡ true
    self = ap (λ r. r && bytes_eq a.1 a.1) ((Decides-eqb a.0 a.0).1 refl) ∙ (bytes_eq-Decides a.1 a.1).1 refl

-- fronts of lists
module _ {X : Type 0} where
  pub Begins-refl : (xs : List X) → Begins xs xs
  Begins-refl xs = ([], sym (append-nil xs))

  pub Begins-trans : (xs ys zs : List X) → Begins xs ys → Begins ys zs → Begins xs zs
  Begins-trans xs ys zs f g = (f.0 ++ g.0, g.1 ∙ ap (λ l. l ++ g.0) f.1 ∙ append_assoc xs f.0 g.0)

  slice_get-append : (xs ys : List X) (n : ℕ) (x : X) → slice_get xs n ≡ Some x → slice_get (xs ++ ys) n ≡ Some x
  slice_get-append [] ys n x e = cc
  slice_get-append (y ∷ xs) ys zero x e = e
  slice_get-append (y ∷ xs) ys (suc n) x e = slice_get-append xs ys n x e

  -- an item keeps its place in a longer list
  pub slice_get-Begins : (old new : List X) → Begins old new → (n : ℕ) (x : X) → slice_get old n ≡ Some x → slice_get new n ≡ Some x
  slice_get-Begins old new f n x e = ap (λ l. slice_get l n) f.1 ∙ slice_get-append old f.0 n x e

  pub length-Begins : (old new : List X) → Begins old new → length old ≤ length new
  length-Begins old new f = omega (arith, ap length f.1, length-append old f.0)

  -- a place in a list with one more item
  pub slice_get-push : (xs : List X) (x : X) (n : ℕ) (y : X) → slice_get (xs ++ x ∷ []) n ≡ Some y → (slice_get xs n ≡ Some y) ⊎ ((n ≡ length xs) × (y ≡ x))
  slice_get-push [] x zero y e = inr (refl, cc)
  slice_get-push [] x (suc n) y e = cc
  slice_get-push (z ∷ xs) x zero y e = inl e
  slice_get-push (z ∷ xs) x (suc n) y e = elim (slice_get-push xs x n y e) [ inl f ↦ inl f | inr f ↦ inr (omega (arith, f.0), f.1) ]

module _ {X : Type 0} (same : X → X → Bool) (decides : (a b : X) → Decides (same a b) (a ≡ b)) where
  -- what a number says
  pub slice_get-number_of : (xs : List X) (x : X) (n : ℕ) → number_of same xs x ≡ Some n → slice_get xs n ≡ Some x
  slice_get-number_of xs x n e =
      let f = slice_get-position_from (same x) 0 n xs e in
      let at_n : n ≡ f.0 = omega (arith, f.2) in
      let is_x : x ≡ f.1 = (decides x f.1).0 f.4 in
      rw at_n (f.3 ∙ ap Some (sym is_x))

  pub within-number_of : (xs : List X) (x : X) (n : ℕ) → number_of same xs x ≡ Some n → n < length xs
  within-number_of xs x n e = slice_get_within xs n x (slice_get-number_of xs x n e)

  pub with_item-old : (xs : List X) (x : X) (n : ℕ) → number_of same xs x ≡ Some n → with_item same xs x ≡ xs
  with_item-old xs x n e = let there : list_any (same x) xs ≡ true = list_any-present (same x) 0 n xs e in rw there refl

  pub with_item-new : (xs : List X) (x : X) → number_of same xs x ≡ None → with_item same xs x ≡ xs ++ x ∷ []
  with_item-new xs x e = let there : list_any (same x) xs ≡ false = list_any-absent (same x) 0 xs e in rw there refl

  pub number_of-new : (xs : List X) (x : X) → number_of same xs x ≡ None → number_of same (xs ++ x ∷ []) x ≡ Some (length xs)
  number_of-new xs x e = position_from-new (same x) 0 xs x (list_any-absent (same x) 0 xs e) ((decides x x).1 refl) ∙ ap Some (omega arith)

  -- an item of the list has a number
  pub list_any-slice_get : (xs : List X) (n : ℕ) (x : X) → slice_get xs n ≡ Some x → list_any (same x) xs ≡ true
  list_any-slice_get [] n x e = cc
  list_any-slice_get (y ∷ ys) zero x e = let is_x : x ≡ y = cc in let t : same x y ≡ true = (decides x y).1 is_x in rw t refl
  list_any-slice_get (y ∷ ys) (suc n) x e = by (same x y) refl (list_any-slice_get ys n x e)
    where
      by : (b : Bool) → same x y ≡ b → list_any (same x) ys ≡ true → list_any (same x) (y ∷ ys) ≡ true
      by true t rest = rw t refl
      by false t rest = rw t rest

  -- no number: the item is nowhere
  pub absent-number_of : (xs : List X) (x : X) → number_of same xs x ≡ None → (n : ℕ) → slice_get xs n ≡ Some x → ⊥
  absent-number_of xs x e n s = true≢false (sym (list_any-slice_get xs n x s) ∙ list_any-absent (same x) 0 xs e)

  -- the item at a place has that place as its number
  pub number_of-slice_get : (xs : List X) → HasNoRepeats xs → (x : X) (n : ℕ) → slice_get xs n ≡ Some x → number_of same xs x ≡ Some n
  number_of-slice_get xs once x n s = by (number_of same xs x) refl
    where
      by : (r : Option ℕ) → number_of same xs x ≡ r → number_of same xs x ≡ Some n
      by None e = absurd (absent-number_of xs x e n s)
      by (Some m) e = e ∙ ap Some (once m n x (slice_get-number_of xs x m e) s)

  -- an item that is nowhere has no number
  pub number_of-nowhere : (xs : List X) (x : X) → ((n : ℕ) → slice_get xs n ≡ Some x → ⊥) → number_of same xs x ≡ None
  number_of-nowhere xs x nowhere = by (number_of same xs x) refl
    where
      by : (r : Option ℕ) → number_of same xs x ≡ r → number_of same xs x ≡ None
      by None e = e
      by (Some n) e = absurd (nowhere n (slice_get-number_of xs x n e))

  -- an item that is put in keeps the list one without repeats, whose front is the list before
  pub Begins-with_item : (xs : List X) (x : X) → Begins xs (with_item same xs x)
  Begins-with_item xs x = by (list_any (same x) xs)
    where
      by : (b : Bool) → Begins xs (if b then xs else xs ++ x ∷ [])
      by true = Begins-refl xs
      by false = (x ∷ [], refl)

  HasNoRepeats-push : (xs : List X) (x : X) → HasNoRepeats xs → ((n : ℕ) → slice_get xs n ≡ Some x → ⊥) → HasNoRepeats (xs ++ x ∷ [])
  HasNoRepeats-push xs x once nowhere i j y s t = by (slice_get-push xs x i y s) (slice_get-push xs x j y t)
    where
      by : (slice_get xs i ≡ Some y) ⊎ ((i ≡ length xs) × (y ≡ x)) → (slice_get xs j ≡ Some y) ⊎ ((j ≡ length xs) × (y ≡ x)) → i ≡ j
      by (inl f) (inl g) = once i j y f g
      by (inl f) (inr g) = absurd (nowhere i (f ∙ ap Some g.1))
      by (inr f) (inl g) = absurd (nowhere j (g ∙ ap Some f.1))
      by (inr f) (inr g) = f.0 ∙ sym g.0

  pub HasNoRepeats-with_item : (xs : List X) (x : X) → HasNoRepeats xs → HasNoRepeats (with_item same xs x)
  HasNoRepeats-with_item xs x once = by (number_of same xs x) refl
    where
      by : (r : Option ℕ) → number_of same xs x ≡ r → HasNoRepeats (with_item same xs x)
      by (Some n) e = subst HasNoRepeats (sym (with_item-old xs x n e)) once
      by None e = subst HasNoRepeats (sym (with_item-new xs x e)) (HasNoRepeats-push xs x once (absent-number_of xs x e))
