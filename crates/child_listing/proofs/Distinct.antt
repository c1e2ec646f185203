-- Lists without repeats.
use Rattle.std.proofs.Common.{◌≡◌, ◌≢◌, ◌⊎◌, ℕ, zero, suc, List, [], ◌∷◌, map, take, Bool, true, false, Some, refl, sym, ap, ◌∙◌, inl, inr}
use Rattle.std.specs.Prelude.{filter, cond, slice_get}
use Rattle.std.proofs.lemmas.Option.{same_Some, none-some}
use Rattle.doc_nodes.specs.Nodes.{Has, Lacks, Distinct}
use Rattle.doc_nodes.proofs.Among.{lacks-has}

-- ---- of those that pass a test

lacks-filter : (p : ℕ → Bool) (x : ℕ) (xs : List ℕ) → Lacks x xs → Lacks x (filter p xs)
lacks-filter p x [] l = tt
lacks-filter p x (y ∷ ys) l = by (p y) (lacks-filter p x ys l.1)
  where
    by : (b : Bool) → Lacks x (filter p ys) → Lacks x (cond b (y ∷ filter p ys) (filter p ys))
    by true more = (l.0, more)
    by false more = more

pub distinct-filter : (p : ℕ → Bool) (xs : List ℕ) → Distinct xs → Distinct (filter p xs)
distinct-filter p [] d = tt
distinct-filter p (x ∷ xs) d = by (p x) (distinct-filter p xs d.1)
  where
    by : (b : Bool) → Distinct (filter p xs) → Distinct (cond b (x ∷ filter p xs) (filter p xs))
    by true more = (lacks-filter p x xs d.0, more)
    by false more = more

-- they are among the others, and pass it
pub filtered : (p : ℕ → Bool) (xs : List ℕ) (c : ℕ) → Has c (filter p xs) → Has c xs × (p c ≡ true)
filtered p [] c h = absurd h
filtered p (x ∷ xs) c h = by (p x) refl h (filtered p xs c)
  where
    by : (b : Bool) → p x ≡ b → Has c (cond b (x ∷ filter p xs) (filter p xs)) → (Has c (filter p xs) → Has c xs × (p c ≡ true)) → Has c (x ∷ xs) × (p c ≡ true)
    by true e (inl q) more = (inl q, ap p (sym q) ∙ e)
    by true e (inr k) more = let r = more k in (inr r.0, r.1)
    by false e k more = let r = more k in (inr r.0, r.1)

-- ---- of those at places

module _ {A : Type 0} (f : A → ℕ) where
  pub has-mapped : (xs : List A) (x : A) → Has x xs → Has (f x) (map f xs)
  has-mapped [] x h = absurd h
  has-mapped (y ∷ ys) x (inl e) = inl (ap f e)
  has-mapped (y ∷ ys) x (inr k) = inr (has-mapped ys x k)

  pub has-place : (xs : List A) (i : ℕ) (x : A) → slice_get xs i ≡ Some x → Has x xs
  has-place [] i x e = absurd (none-some x e)
  has-place (y ∷ ys) zero x e = inl (same_Some y x e)
  has-place (y ∷ ys) (suc i) x e = inr (has-place ys i x e)

  -- one of the first so many is another than the next
  pub front-other : (xs : List A) → Distinct (map f xs) → (i : ℕ) (x y : A) → slice_get xs i ≡ Some x → Has y (take i xs) → f y ≢ f x
  front-other [] d i x y e h = absurd (none-some x e)
  front-other (z ∷ zs) d zero x y e h = absurd h
  front-other (z ∷ zs) d (suc i) x y e (inl q) = λ r. lacks-has (f z) (f x) (map f zs) d.0 (has-mapped zs x (has-place zs i x e)) (sym r ∙ ap f (sym q))
  front-other (z ∷ zs) d (suc i) x y e (inr k) = front-other zs d.1 i x y e k

  -- one of the first so many and one is one of the first so many, or the next
  pub front-more : (xs : List A) (i : ℕ) (x y : A) → slice_get xs i ≡ Some x → Has y (take (suc i) xs) → Has y (take i xs) ⊎ (x ≡ y)
  front-more [] i x y e h = absurd (none-some x e)
  front-more (z ∷ zs) zero x y e (inl q) = inr (sym (same_Some z x e) ∙ q)
  front-more (z ∷ zs) zero x y e (inr k) = absurd k
  front-more (z ∷ zs) (suc i) x y e (inl q) = inl (inl q)
  front-more (z ∷ zs) (suc i) x y e (inr k) = elim (front-more zs i x y e k) [ inl h ↦ inl (inr h) | inr s ↦ inr s ]

  -- one of them is at a place
  pub place-has : (xs : List A) (x : A) → Has x xs → (i : ℕ) × (slice_get xs i ≡ Some x)
  place-has [] x h = absurd h
  place-has (y ∷ ys) x (inl e) = (0, ap Some e)
  place-has (y ∷ ys) x (inr k) = let r = place-has ys x k in (suc r.0, r.1)

  -- what comes of one at a place comes from one there
  pub place-from : (xs : List A) (i n : ℕ) → slice_get (map f xs) i ≡ Some n → (x : A) × (slice_get xs i ≡ Some x) × (f x ≡ n)
  place-from [] i n e = absurd (none-some n e)
  place-from (y ∷ ys) zero n e = (y, refl, same_Some (f y) n e)
  place-from (y ∷ ys) (suc i) n e = place-from ys i n e
