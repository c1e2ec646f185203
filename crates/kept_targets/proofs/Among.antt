-- Numbers among others.
use Rattle.std.proofs.Common.{◌≡◌, ◌⊎◌, ◌+◌, ◌<◌, ℕ, zero, suc, Bool, true, false, List, [], ◌∷◌, ◌++◌, length, take, get_or, inl, inr, refl, subst, arith}
use Rattle.std.proofs.lemmas.Bool.{cases_eq, false≢true, true≢false}
use Rattle.doc_nodes.specs.Nodes.{Has, Lacks}

pub has-or-not : (n : ℕ) (xs : List ℕ) → Has n xs ⊎ (¬ Has n xs)
has-or-not n [] = inr (λ h. h)
has-or-not n (x ∷ xs) =
    elim (cases_eq x n) [
      | inl e ↦ inl (inl e)
      | inr off ↦ elim (has-or-not n xs) [ inl later ↦ inl (inr later) | inr none ↦ inr (λ h. elim h [ inl e ↦ off e | inr later ↦ none later ]) ]
    ]

pub lacks-not : (n : ℕ) (xs : List ℕ) → Lacks n xs → Has n xs → ⊥
lacks-not n [] l h = h
lacks-not n (x ∷ xs) l h = elim h [ inl e ↦ l.0 e | inr later ↦ lacks-not n xs l.1 later ]

pub has-left : (n : ℕ) (xs ys : List ℕ) → Has n xs → Has n (xs ++ ys)
has-left n [] ys h = absurd h
has-left n (x ∷ xs) ys h = elim h [ inl e ↦ inl e | inr later ↦ inr (has-left n xs ys later) ]

pub has-right : (n : ℕ) (xs ys : List ℕ) → Has n ys → Has n (xs ++ ys)
has-right n [] ys h = h
has-right n (x ∷ xs) ys h = inr (has-right n xs ys h)

pub has-either : {A : Type 0} (a : A) (xs ys : List A) → Has a (xs ++ ys) → Has a xs ⊎ Has a ys
has-either a [] ys h = inr h
has-either a (x ∷ xs) ys h =
    elim h [ inl e ↦ inl (inl e) | inr later ↦ elim (has-either a xs ys later) [ inl one ↦ inl (inr one) | inr other ↦ inr other ] ]

pub lacks-left : (n : ℕ) (xs ys : List ℕ) → Lacks n (xs ++ ys) → Lacks n xs
lacks-left n [] ys l = tt
lacks-left n (x ∷ xs) ys l = (l.0, lacks-left n xs ys l.1)

pub lacks-right : (n : ℕ) (xs ys : List ℕ) → Lacks n (xs ++ ys) → Lacks n ys
lacks-right n [] ys l = l
lacks-right n (x ∷ xs) ys l = lacks-right n xs ys l.1

-- ---- those up to a place

next-by : (xs : List ℕ) (i n : ℕ) → i < length xs → Has n (take (suc i) xs) → Has n (take i xs) ⊎ (get_or xs i 0 ≡ n)
next-by [] i n l h = absurd h
next-by (x ∷ xs) zero n l h = elim h [ inl e ↦ inr e | inr none ↦ absurd none ]
next-by (x ∷ xs) (suc i) n l h =
    elim h [ inl e ↦ inl (inl e) | inr later ↦ elim (next-by xs i n (omega (arith, l)) later) [ inl k ↦ inl (inr k) | inr e ↦ inr e ] ]

before-by : (xs : List ℕ) (i n : ℕ) → Has n (take i xs) → Has n (take (suc i) xs)
before-by [] zero n h = absurd h
before-by [] (suc i) n h = absurd h
before-by (x ∷ xs) zero n h = absurd h
before-by (x ∷ xs) (suc i) n h = elim h [ inl e ↦ inl e | inr later ↦ inr (before-by xs i n later) ]

here-by : (xs : List ℕ) (i : ℕ) → i < length xs → Has (get_or xs i 0) (take (suc i) xs)
here-by [] i l = absurd (omega (arith, l))
here-by (x ∷ xs) zero l = inl refl
here-by (x ∷ xs) (suc i) l = inr (here-by xs i (omega (arith, l)))

more : (i : ℕ) → suc i ≡ i + 1
more i = omega arith

less : (i : ℕ) → i + 1 ≡ suc i
less i = omega arith

pub has-next : (xs : List ℕ) (i n : ℕ) → i < length xs → Has n (take (i + 1) xs) → Has n (take i xs) ⊎ (get_or xs i 0 ≡ n)
has-next xs i n l h = next-by xs i n l (subst (λ (k : ℕ). Has n (take k xs)) (less i) h)

pub has-before : (xs : List ℕ) (i n : ℕ) → Has n (take i xs) → Has n (take (i + 1) xs)
has-before xs i n h = subst (λ (k : ℕ). Has n (take k xs)) (more i) (before-by xs i n h)

pub has-here : (xs : List ℕ) (i : ℕ) → i < length xs → Has (get_or xs i 0) (take (i + 1) xs)
has-here xs i l = subst (λ (k : ℕ). Has (get_or xs i 0) (take k xs)) (more i) (here-by xs i l)

pub has-taken : (xs : List ℕ) (i n : ℕ) → Has n (take i xs) → Has n xs
has-taken [] zero n h = absurd h
has-taken [] (suc i) n h = absurd h
has-taken (x ∷ xs) zero n h = absurd h
has-taken (x ∷ xs) (suc i) n h = elim h [ inl e ↦ inl e | inr later ↦ inr (has-taken xs i n later) ]

pub has-get : (xs : List ℕ) (i : ℕ) → i < length xs → Has (get_or xs i 0) xs
has-get [] i l = absurd (omega (arith, l))
has-get (x ∷ xs) zero l = inl refl
has-get (x ∷ xs) (suc i) l = inr (has-get xs i (omega (arith, l)))

-- ---- one of two

abbrev pub is_left : {A B : Type 0} → A ⊎ B → Bool
is_left (inl a) = true
is_left (inr b) = false

pub from-left : {A B : Type 0} (o : A ⊎ B) → is_left o ≡ true → A
from-left (inl a) e = a
from-left (inr b) e = absurd (false≢true e)

pub to-left : {A : Type 0} (o : A ⊎ (¬ A)) → A → is_left o ≡ true
to-left (inl a) h = refl
to-left (inr none) h = absurd (none h)

abbrev pub is_right : {A B : Type 0} → A ⊎ B → Bool
is_right (inl a) = false
is_right (inr b) = true

pub from-right : {A B : Type 0} (o : A ⊎ B) → is_right o ≡ true → B
from-right (inl a) e = absurd (false≢true e)
from-right (inr b) e = b

pub to-right : {A B : Type 0} (o : A ⊎ B) → (A → ⊥) → is_right o ≡ true
to-right (inl a) off = absurd (off a)
to-right (inr b) off = refl

pub from-other : {A B : Type 0} (o : A ⊎ B) → is_right o ≡ false → A
from-other (inl a) e = a
from-other (inr b) e = absurd (true≢false e)
