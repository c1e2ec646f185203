-- Lists with one item more in the middle, and without it.
use Rattle.std.proofs.Common.{◌≡◌, ◌≢◌, ◌⊎◌, ℕ, suc, ◌<◌, List, [], ◌∷◌, ◌++◌, length, map, get_or, sym, ap, ◌∙◌, subst, true, false, nat_eq, refl, inl, inr, take, drop, insert, remove, arith, drop-cons}
use Rattle.std.proofs.lemmas.Bool.Decides.{nat_tests}
use Rattle.std.proofs.lemmas.List.{take-append-drop, map-append, take-map, drop-map}
use Rattle.doc_nodes.specs.Nodes.{Has, Lacks, Distinct}

pub same_or_other : (m n : ℕ) → (m ≡ n) ⊎ (m ≢ n)
same_or_other m n =
    elim (nat_eq m n) as (λ b. nat_eq m n ≡ b → (m ≡ n) ⊎ (m ≢ n)) [
      | true ↦ λ e. inl (grind (arith, nat_tests))
      | false ↦ λ e. inr (grind (arith, nat_tests))
    ] refl

pub map-insert : {A B : Type 0} (f : A → B) (xs : List A) (i : ℕ) (x : A) → map f (insert xs i x) ≡ insert (map f xs) i (f x)
map-insert f xs i x = map-append f (take i xs) (x ∷ drop i xs) ∙ (λ k. sym (take-map f i xs) k ++ f x ∷ sym (drop-map f i xs) k)

pub map-remove : {A B : Type 0} (f : A → B) (xs : List A) (i : ℕ) → map f (remove xs i) ≡ remove (map f xs) i
map-remove f xs i = map-append f (take i xs) (drop (suc i) xs) ∙ (λ k. sym (take-map f i xs) k ++ sym (drop-map f (suc i) xs) k)

pub has-middle : {A : Type 0} (c : A) (xs ys : List A) → Has c (xs ++ c ∷ ys)
has-middle c [] ys = inl refl
has-middle c (x ∷ xs) ys = inr (has-middle c xs ys)

pub has-more : {A : Type 0} (c x : A) (xs ys : List A) → Has x (xs ++ ys) → Has x (xs ++ c ∷ ys)
has-more c x [] ys h = inr h
has-more c x (y ∷ xs) ys h = elim h [ inl e ↦ inl e | inr k ↦ inr (has-more c x xs ys k) ]

pub has-less : {A : Type 0} (c x : A) (xs ys : List A) → Has x (xs ++ c ∷ ys) → (c ≡ x) ⊎ Has x (xs ++ ys)
has-less c x [] ys h = h
has-less c x (y ∷ xs) ys h = elim h [ inl e ↦ inr (inl e) | inr k ↦ elim (has-less c x xs ys k) [ inl e ↦ inl e | inr z ↦ inr (inr z) ] ]

-- an image is that of some item
pub record FromMap {A : Type 0} (f : A → ℕ) (xs : List A) (y : ℕ) : Type 0 where
  pub item : A
  pub has : Has item xs
  pub is : f item ≡ y

pub from-map : {A : Type 0} (f : A → ℕ) (xs : List A) (y : ℕ) → Has y (map f xs) → FromMap f xs y
from-map f [] y h = absurd h
from-map f (x ∷ xs) y h = elim h [
  | inl e ↦ record { item = x; has = inl refl; is = e }
  | inr k ↦ let z = from-map f xs y k in record { item = z.item; has = inr z.has; is = z.is }
]

pub has-map : {A : Type 0} (f : A → ℕ) (xs : List A) (x : A) → Has x xs → Has (f x) (map f xs)
has-map f [] x h = absurd h
has-map f (y ∷ xs) x h = elim h [ inl e ↦ inl (ap f e) | inr k ↦ inr (has-map f xs x k) ]

pub lacks-all : (x : ℕ) (xs : List ℕ) → ((c : ℕ) → Has c xs → c ≢ x) → Lacks x xs
lacks-all x [] h = tt
lacks-all x (c ∷ cs) h = (h c (inl refl), lacks-all x cs (λ d k. h d (inr k)))

pub lacks-has : (x y : ℕ) (xs : List ℕ) → Lacks x xs → Has y xs → y ≢ x
lacks-has x y [] l h = absurd h
lacks-has x y (z ∷ zs) l h = elim h [ inl e ↦ λ k. l.0 (e ∙ k) | inr k ↦ lacks-has x y zs l.1 k ]

lacks-more : (c x : ℕ) (xs ys : List ℕ) → c ≢ x → Lacks x (xs ++ ys) → Lacks x (xs ++ c ∷ ys)
lacks-more c x [] ys n l = (n, l)
lacks-more c x (y ∷ xs) ys n l = (l.0, lacks-more c x xs ys n l.1)

lacks-less : (c x : ℕ) (xs ys : List ℕ) → Lacks x (xs ++ c ∷ ys) → Lacks x (xs ++ ys)
lacks-less c x [] ys l = l.1
lacks-less c x (y ∷ xs) ys l = (l.0, lacks-less c x xs ys l.1)

lacks-at : (x : ℕ) (xs ys : List ℕ) (c : ℕ) → Lacks x (xs ++ c ∷ ys) → c ≢ x
lacks-at x [] ys c l = l.0
lacks-at x (y ∷ xs) ys c l = lacks-at x xs ys c l.1

distinct-more : (c : ℕ) (xs ys : List ℕ) → Lacks c (xs ++ ys) → Distinct (xs ++ ys) → Distinct (xs ++ c ∷ ys)
distinct-more c [] ys l d = (l, d)
distinct-more c (y ∷ xs) ys l d = (lacks-more c y xs ys (λ e. l.0 (sym e)) d.0, distinct-more c xs ys l.1 d.1)

distinct-less : (c : ℕ) (xs ys : List ℕ) → Distinct (xs ++ c ∷ ys) → Distinct (xs ++ ys) × Lacks c (xs ++ ys)
distinct-less c [] ys d = (d.1, d.0)
distinct-less c (y ∷ xs) ys d =
    let r = distinct-less c xs ys d.1 in
    ((lacks-less c y xs ys d.0, r.0), ((λ e. lacks-at y xs ys c d.0 (sym e)), r.1))

-- after an insertion
pub has-inserted : {A : Type 0} (xs : List A) (i : ℕ) (c : A) → Has c (insert xs i c)
has-inserted xs i c = has-middle c (take i xs) (drop i xs)

pub has-insert : {A : Type 0} (xs : List A) (i : ℕ) (c x : A) → Has x xs → Has x (insert xs i c)
has-insert xs i c x h = has-more c x (take i xs) (drop i xs) (subst (Has x) (sym (take-append-drop i xs)) h)

pub from-insert : {A : Type 0} (xs : List A) (i : ℕ) (c x : A) → Has x (insert xs i c) → (c ≡ x) ⊎ Has x xs
from-insert xs i c x h = elim (has-less c x (take i xs) (drop i xs) h) [ inl e ↦ inl e | inr k ↦ inr (subst (Has x) (take-append-drop i xs) k) ]

pub distinct-insert : (xs : List ℕ) (i c : ℕ) → Lacks c xs → Distinct xs → Distinct (insert xs i c)
distinct-insert xs i c l d =
    let whole = sym (take-append-drop i xs) in
    distinct-more c (take i xs) (drop i xs) (subst (Lacks c) whole l) (subst Distinct whole d)

-- and after a removal
cut_at : {A : Type 0} (xs : List A) (i : ℕ) (c : A) → i < length xs → ((d : A) → get_or xs i d ≡ c) → xs ≡ take i xs ++ c ∷ drop (suc i) xs
cut_at xs i c lt e = sym (take-append-drop i xs) ∙ ap (λ l. take i xs ++ l) (drop-cons xs i c lt ∙ ap (λ y. y ∷ drop (suc i) xs) (e c))

pub has-at : {A : Type 0} (xs : List A) (i : ℕ) (c : A) → i < length xs → ((d : A) → get_or xs i d ≡ c) → Has c xs
has-at xs i c lt e = subst (Has c) (sym (cut_at xs i c lt e)) (has-middle c (take i xs) (drop (suc i) xs))

pub from-remove : {A : Type 0} (xs : List A) (i : ℕ) (c x : A) → i < length xs → ((d : A) → get_or xs i d ≡ c) → Has x (remove xs i) → Has x xs
from-remove xs i c x lt e h = subst (Has x) (sym (cut_at xs i c lt e)) (has-more c x (take i xs) (drop (suc i) xs) h)

pub has-remove : {A : Type 0} (xs : List A) (i : ℕ) (c x : A) → i < length xs → ((d : A) → get_or xs i d ≡ c) → Has x xs → (c ≡ x) ⊎ Has x (remove xs i)
has-remove xs i c x lt e h = has-less c x (take i xs) (drop (suc i) xs) (subst (Has x) (cut_at xs i c lt e) h)

pub distinct-remove : (xs : List ℕ) (i c : ℕ) → i < length xs → ((d : ℕ) → get_or xs i d ≡ c) → Distinct xs → Distinct (remove xs i) × Lacks c (remove xs i)
distinct-remove xs i c lt e d = distinct-less c (take i xs) (drop (suc i) xs) (subst Distinct (cut_at xs i c lt e) d)
