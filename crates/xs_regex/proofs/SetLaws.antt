-- Sets by flags, and lists of their members.
use Rattle.std.proofs.Common.{◌≡◌, ℕ, zero, suc, ◌+◌, ◌<◌, ◌≤◌, ◌↔◌, ◌⊎◌, Bool, true, false, List, [], ◌∷◌, ◌++◌, length, get_or, set, take, replicate, refl, ap, sym, ◌∙◌, inl, inr, arith}
use Rattle.std.specs.Prelude.{Contains}
use Rattle.std.proofs.lemmas.List.{get_or-set_same, get_or-set_other, length-set, length-replicate, take_more, length_push}
use Rattle.std.proofs.lemmas.List.Elements.{Contains-append_left, Contains-append_right, Contains-append_cases}
use Rattle.std.proofs.lemmas.Bool.{cases_eq, cases_lt, both_ways}
use Rattle.xs_regex.specs.Sets.{Has}
use Rattle.xs_regex.specs.Listed.{IsListed, flagged}

pub has_within : (flags : List Bool) (p : ℕ) → Has flags p → p < length flags
has_within [] p h = cc
has_within (flag ∷ flags) zero h = omega arith
has_within (flag ∷ flags) (suc p) h = let l = has_within flags p h in omega arith

pub contains_one : (x y : ℕ) → Contains (x ∷ []) y → y ≡ x
contains_one x y (zero, l, e) = sym e
contains_one x y (suc k, l, e) = absurd (omega arith)

pub one_contains : (x y : ℕ) → y ≡ x → Contains (x ∷ []) y
one_contains x y e = (0, omega arith, sym e)

pub none_contained : (y : ℕ) → Contains [] y → ⊥
none_contained y (k, l, e) = omega arith

-- a number that comes in
pub has_set : (flags : List Bool) (p q : ℕ) → p < length flags → Has (set flags p true) q → Has flags q ⊎ (q ≡ p)
has_set flags p q l h = elim (cases_eq q p) [
  | inl e ↦ inr e
  | inr n ↦ inl (sym (get_or-set_other flags p q true false n) ∙ h)
]

pub set_has : (flags : List Bool) (p q : ℕ) → p < length flags → Has flags q ⊎ (q ≡ p) → Has (set flags p true) q
set_has flags p q l (inr e) = ap (λ x. get_or (set flags p true) x false) e ∙ get_or-set_same flags p true false l
set_has flags p q l (inl h) = elim (cases_eq q p) [
  | inl e ↦ ap (λ x. get_or (set flags p true) x false) e ∙ get_or-set_same flags p true false l
  | inr n ↦ get_or-set_other flags p q true false n ∙ h
]

-- a number that goes out
pub has_unset : (flags : List Bool) (p q : ℕ) → Has (set flags p false) q → Has flags q
has_unset flags p q h = elim (cases_eq q p) [
  | inl e ↦ elim (cases_lt p (length flags)) [
    | inl l ↦ absurd (both_ways _ (ap (λ x. get_or (set flags p false) x false) e ∙ get_or-set_same flags p false false l) h)
    | inr m ↦ absurd (let b = has_within (set flags p false) q h in let c = length-set flags p false in omega arith)
  ]
  | inr n ↦ sym (get_or-set_other flags p q false false n) ∙ h
]

pub unset : (flags : List Bool) (p : ℕ) → p < length flags → Has (set flags p false) p → ⊥
unset flags p l h = both_ways _ (get_or-set_same flags p false false l) h

pub flagged_set : (flags : List Bool) (p : ℕ) → p < length flags → get_or flags p false ≡ false → flagged (set flags p true) ≡ flagged flags + 1
flagged_set [] p l e = absurd (omega arith)
flagged_set (false ∷ flags) zero l e = omega arith
flagged_set (true ∷ flags) zero l e = cc
flagged_set (true ∷ flags) (suc p) l e = let h = flagged_set flags p (omega arith) e in omega arith
flagged_set (false ∷ flags) (suc p) l e = let h = flagged_set flags p (omega arith) e in omega arith

flagged_most : (flags : List Bool) → flagged flags ≤ length flags
flagged_most [] = omega arith
flagged_most (true ∷ flags) = let h = flagged_most flags in omega arith
flagged_most (false ∷ flags) = let h = flagged_most flags in omega arith

pub flagged_below : (flags : List Bool) (p : ℕ) → p < length flags → get_or flags p false ≡ false → flagged flags < length flags
flagged_below [] p l e = absurd (omega arith)
flagged_below (false ∷ flags) zero l e = let h = flagged_most flags in omega arith
flagged_below (true ∷ flags) zero l e = cc
flagged_below (true ∷ flags) (suc p) l e = let h = flagged_below flags p (omega arith) e in omega arith
flagged_below (false ∷ flags) (suc p) l e = let h = flagged_below flags p (omega arith) e in omega arith

pub flagged_none : (flags : List Bool) → ((p : ℕ) → Has flags p → ⊥) → flagged flags ≡ 0
flagged_none [] n = refl
flagged_none (true ∷ flags) n = absurd (n 0 refl)
flagged_none (false ∷ flags) n = flagged_none flags (λ p. n (suc p))

pub none_in_replicate : (n p : ℕ) → Has (replicate n false) p → ⊥
none_in_replicate zero p h = cc
none_in_replicate (suc n) zero h = cc
none_in_replicate (suc n) (suc p) h = none_in_replicate n p h

-- the empty set
pub listed_none : (flags : List Bool) (capacity : ℕ) → ((p : ℕ) → Has flags p → ⊥) → length flags ≤ capacity → IsListed flags [] capacity
listed_none flags capacity n l = record {
  listed = λ p. ((λ c. absurd (none_contained p c)), (λ h. absurd (n p h)));
  count = sym (flagged_none flags n);
  room = l;
}

-- one number more
pub listed_more : (flags : List Bool) (members : List ℕ) (capacity p : ℕ) → IsListed flags members capacity → p < length flags → get_or flags p false ≡ false →
    IsListed (set flags p true) (members ++ p ∷ []) capacity
listed_more flags members capacity p h l e = record {
  listed = λ q. (
    (λ c. set_has flags p q l (elim (Contains-append_cases members (p ∷ []) q c) [
      | inl a ↦ inl ((h.listed q).0 a)
      | inr b ↦ inr (contains_one p q b)
    ])),
    (λ k. elim (has_set flags p q l k) [
      | inl a ↦ Contains-append_left members (p ∷ []) q ((h.listed q).1 a)
      | inr b ↦ Contains-append_right members (p ∷ []) q (one_contains p q b)
    ]),
  );
  count = (let a = length_push members p in let b = flagged_set flags p l e in let c = h.count in omega arith);
  room = (let a = length-set flags p true in let b = h.room in omega arith);
}

pub set_on : (flags : List Bool) (p : ℕ) → get_or flags p false ≡ true → set flags p true ≡ flags
set_on [] p e = refl
set_on (true ∷ flags) zero e = refl
set_on (false ∷ flags) zero e = cc
set_on (flag ∷ flags) (suc p) e = ap (λ fs. flag ∷ fs) (set_on flags p e)

-- the first numbers of a list, and one more
pub taken_cases : (xs : List ℕ) (i x y : ℕ) → i < length xs → x ≡ get_or xs i x → Contains (take (i + 1) xs) y → Contains (take i xs) y ⊎ (y ≡ x)
taken_cases xs i x y l e c = elim (Contains-append_cases (take i xs) (x ∷ []) y (rw (take_more xs i x l ∙ ap (λ z. take i xs ++ z ∷ []) (sym e)) at c)) [
  | inl a ↦ inl a
  | inr b ↦ inr (contains_one x y b)
]

pub taken_from : (xs : List ℕ) (i x y : ℕ) → i < length xs → x ≡ get_or xs i x → Contains (take i xs) y ⊎ (y ≡ x) → Contains (take (i + 1) xs) y
taken_from xs i x y l e h =
    let P : List ℕ → Type 0 = λ zs. Contains zs y in
    rw (take_more xs i x l ∙ ap (λ z. take i xs ++ z ∷ []) (sym e)) (elim h [
      | inl a ↦ Contains-append_left (take i xs) (x ∷ []) y a
      | inr b ↦ Contains-append_right (take i xs) (x ∷ []) y (one_contains x y b)
    ])

pub flag_at : (flags : List Bool) (p : ℕ) (b : Bool) → p < length flags → b ≡ get_or flags p b → get_or flags p false ≡ b
flag_at [] p b l e = absurd (omega arith)
flag_at (flag ∷ flags) zero b l e = sym e
flag_at (flag ∷ flags) (suc p) b l e = flag_at flags p b (omega arith) e

pub at_false : (flags : List Bool) (p : ℕ) (b : Bool) → b ≡ get_or flags p b → b ≡ false → get_or flags p false ≡ false
at_false flags p b e f = ap (λ x. get_or flags p x) (sym f) ∙ (sym e ∙ f)

-- a number whose flag was not set came in
pub listed_push : (flags : List Bool) (members members' : List ℕ) (capacity capacity' p : ℕ) → IsListed flags members capacity → p < length flags → get_or flags p false ≡ false →
    members' ≡ members ++ p ∷ [] → capacity' ≡ capacity → IsListed (set flags p true) members' capacity'
listed_push flags members members' capacity capacity' p h l e m k =
    let x = listed_more flags members capacity p h l e in
    rw (m, k) x

-- the flags of the members went out, and no flag came in
pub listed_cleared : (flags flags' : List Bool) (members members' : List ℕ) (capacity capacity' : ℕ) → IsListed flags members capacity →
    ((p : ℕ) → Contains members p → Has flags' p → ⊥) → ((p : ℕ) → Has flags' p → Has flags p) → length flags' ≡ length flags →
    members' ≡ [] → capacity' ≡ capacity → IsListed flags' members' capacity'
listed_cleared flags flags' members members' capacity capacity' h out others l m k =
    let x = listed_none flags' capacity (λ p a. out p ((h.listed p).1 (others p a)) a) (let b = h.room in omega arith) in
    rw (m, k) x

pub listed_new : (flags : List Bool) (members : List ℕ) (capacity n : ℕ) → flags ≡ replicate n false → members ≡ [] → n ≤ capacity → IsListed flags members capacity
listed_new flags members capacity n e m l =
    let x = listed_none (replicate n false) capacity (none_in_replicate n) (let a = length-replicate {A = Bool} n false in omega arith) in
    rw (e, m) x

pub size_of_new : (flags : List Bool) (n : ℕ) → flags ≡ replicate n false → length flags ≡ n
size_of_new flags n e = ap length e ∙ length-replicate {A = Bool} n false

-- flags set for the first numbers of a list, and for one more
pub marked_more : (flags : List Bool) (xs : List ℕ) (i x : ℕ) → i < length xs → x ≡ get_or xs i x → x < length flags →
    ((q : ℕ) → Has flags q ↔ Contains (take i xs) q) → (q : ℕ) → Has (set flags x true) q ↔ Contains (take (i + 1) xs) q
marked_more flags xs i x l e b m q = (
  (λ h. taken_from xs i x q l e (elim (has_set flags x q b h) [ inl k ↦ inl ((m q).0 k) | inr k ↦ inr k ])),
  (λ h. set_has flags x q b (elim (taken_cases xs i x q l e h) [ inl k ↦ inl ((m q).1 k) | inr k ↦ inr k ])),
)
