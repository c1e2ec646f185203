-- Lists of numbers, each of them once, with more of them.
use Rattle.std.proofs.Common.{◌≡◌, ℕ, ◌+◌, ◌<◌, ◌≤◌, ◌↔◌, ◌⊎◌, ◌==◌, Bool, true, List, [], ◌∷◌, ◌++◌, Option, Some, None, position, length, true≢false, map, get_or, take, refl, sym, ap, subst, ◌∙◌, inl, inr, arith}
use Rattle.std.specs.Prelude.{Contains}
use Rattle.std.specs.Option.{is_some}
use Rattle.std.proofs.lemmas.Iterator.Adapters.{position_from-zero}
use Rattle.std.proofs.lemmas.Bool.Decides.{Decides-eqb}
use Rattle.std.proofs.lemmas.List.{take_more, map-append, length_push}
use Rattle.std.proofs.lemmas.List.Elements.{Contains-append_left, Contains-push, Contains-push_cases}
use Rattle.xs_names.specs.Numbering.{number_of, with_item, HasNoRepeats}
use Rattle.xs_names.proofs.NumberingLaws.{slice_get-number_of, with_item-old, with_item-new, HasNoRepeats-with_item}
use Rattle.content_automaton.specs.declared.symbol_terms.Accepts.{Accepts}
use Rattle.content_automaton.specs.Rows.{with_all}
use Rattle.content_automaton.proofs.Items.{contains_head, contains_tail, contains_cases, none_contained, taken_cases, taken_from, contains_get}

abbrev same : ℕ → ℕ → Bool
same a b = a == b

-- a number that is found is in the list
pub item_there : (xs : List ℕ) (x : ℕ) (found : Option ℕ) → found ≡ position (same x) xs → true ≡ is_some found → xs ≡ with_item same xs x
item_there xs x None at is = absurd (true≢false is)
item_there xs x (Some n) at is = sym (with_item-old same Decides-eqb xs x n (sym (position_from-zero (same x) xs) ∙ sym at))

pub item_contains : (xs : List ℕ) (y n : ℕ) → Contains (with_item same xs y) n ↔ (Contains xs n ⊎ (n ≡ y))
item_contains xs y n = by (number_of same xs y) refl
  where
    Is : List ℕ → Type 0
    Is zs = Contains zs n ↔ (Contains xs n ⊎ (n ≡ y))

    by : (r : Option ℕ) → number_of same xs y ≡ r → Is (with_item same xs y)
    by (Some k) e = subst Is (sym (with_item-old same Decides-eqb xs y k e)) (
      (λ c. inl c),
      (λ h. elim h [
        | inl c ↦ c
        | inr q ↦ subst (λ (z : ℕ). Contains xs z) (sym q) (contains_get xs k y (slice_get-number_of same Decides-eqb xs y k e))
      ]),
    )
    by None e = subst Is (sym (with_item-new same Decides-eqb xs y e)) (
      (λ c. elim (Contains-push_cases xs y n c) [ inl a ↦ inl a | inr q ↦ inr (sym q) ]),
      (λ h. elim h [
        | inl a ↦ Contains-append_left xs (y ∷ []) n a
        | inr q ↦ subst (λ (z : ℕ). Contains (xs ++ y ∷ []) z) (sym q) (Contains-push xs y)
      ]),
    )

pub all_contains : (xs ys : List ℕ) (n : ℕ) → Contains (with_all xs ys) n ↔ (Contains xs n ⊎ Contains ys n)
all_contains xs [] n = ((λ c. inl c), (λ h. elim h [ inl c ↦ c | inr c ↦ absurd (none_contained n c) ]))
all_contains xs (y ∷ ys) n =
    let more = all_contains (with_item same xs y) ys n in
    let one = item_contains xs y n in (
      (λ c. elim (more.0 c) [
        | inl a ↦ elim (one.0 a) [ inl b ↦ inl b | inr q ↦ inr (contains_head y ys n q) ]
        | inr b ↦ inr (contains_tail y ys n b)
      ]),
      (λ h. elim h [
        | inl a ↦ more.1 (inl (one.1 (inl a)))
        | inr b ↦ elim (contains_cases y ys n b) [ inl q ↦ more.1 (inl (one.1 (inr q))) | inr d ↦ more.1 (inr d) ]
      ]),
    )

all_append : (xs ys zs : List ℕ) → with_all xs (ys ++ zs) ≡ with_all (with_all xs ys) zs
all_append xs [] zs = refl
all_append xs (y ∷ ys) zs = all_append (with_item same xs y) ys zs

-- one more of a list
pub all_more : (xs ys : List ℕ) (i y : ℕ) → i < length ys → y ≡ get_or ys i y → with_all xs (take (i + 1) ys) ≡ with_item same (with_all xs (take i ys)) y
all_more xs ys i y l e =
    ap (with_all xs) (take_more ys i y l) ∙ (all_append xs (take i ys) (get_or ys i y ∷ []) ∙ ap (with_item same (with_all xs (take i ys))) (sym e))

pub all_more_of : {X : Type 0} (f : X → ℕ) (xs : List ℕ) (ys : List X) (i : ℕ) (y : X) → i < length ys → y ≡ get_or ys i y →
    with_all xs (map f (take (i + 1) ys)) ≡ with_item same (with_all xs (map f (take i ys))) (f y)
all_more_of f xs ys i y l e =
    ap (λ zs. with_all xs (map f zs)) (take_more ys i y l) ∙ (ap (with_all xs) (map-append f (take i ys) (get_or ys i y ∷ [])) ∙
    (all_append xs (map f (take i ys)) (f (get_or ys i y) ∷ []) ∙ ap (λ z. with_item same (with_all xs (map f (take i ys))) (f z)) (sym e)))

pub item_kept : (keys : List ℕ) (x : ℕ) (news : List ℕ) → HasNoRepeats keys → news ≡ with_item same keys x → length keys < 1073741824 → (length news ≤ 1073741824) × HasNoRepeats news
item_kept keys x news once is few = (
  by (number_of same keys x) refl,
  subst (λ (zs : List ℕ). HasNoRepeats zs) (sym is) (HasNoRepeats-with_item same Decides-eqb keys x once),
)
  where
    by : (r : Option ℕ) → number_of same keys x ≡ r → length news ≤ 1073741824
    by (Some k) e = let l = ap length (is ∙ with_item-old same Decides-eqb keys x k e) in omega arith
    by None e = let l = ap length (is ∙ with_item-new same Decides-eqb keys x e) in let m = length_push keys x in omega arith

-- the numbers are those of some of the terms
abbrev pub AreFrom : (Accepts → List ℕ) → List Accepts → List ℕ → Type 0
AreFrom f terms numbers = (n : ℕ) → Contains numbers n ↔ ((a : Accepts) × Contains terms a × Contains (f a) n)

pub from_none : (f : Accepts → List ℕ) → AreFrom f [] []
from_none f n = ((λ c. absurd (none_contained n c)), (λ h. absurd (none_contained h.0 h.1)))

pub from_more : (f : Accepts → List ℕ) (terms : List Accepts) (i : ℕ) (a : Accepts) (olds news : List ℕ) → i < length terms → a ≡ get_or terms i a → news ≡ with_all olds (f a) →
    AreFrom f (take i terms) olds → AreFrom f (take (i + 1) terms) news
from_more f terms i a olds news l is e before n =
    let both = all_contains olds (f a) n in (
      (λ c. elim (both.0 (subst (λ (zs : List ℕ). Contains zs n) e c)) [
        | inl b ↦ (let r = (before n).0 b in (r.0, taken_from terms i r.0 a l (inl r.1), r.2))
        | inr b ↦ (a, taken_from terms i a a l (inr is), b)
      ]),
      (λ h. subst (λ (zs : List ℕ). Contains zs n) (sym e) (elim (taken_cases terms i h.0 a l h.1) [
        | inl b ↦ both.1 (inl ((before n).1 (h.0, b, h.2)))
        | inr q ↦ both.1 (inr (subst (λ (z : Accepts). Contains (f z) n) (q ∙ sym is) h.2))
      ])),
    )
