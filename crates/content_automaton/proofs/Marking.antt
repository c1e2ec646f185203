-- Sets of numbers by flags.
use Rattle.std.proofs.Common.{◌≡◌, ℕ, zero, suc, ◌+◌, ◌<◌, ◌≤◌, ◌↔◌, ◌⊎◌, Bool, true, false, List, [], ◌∷◌, ◌++◌, length, get_or, set, take, replicate, refl, ap, sym, ◌∙◌, inl, inr, arith, take_all}
use Rattle.std.specs.Prelude.{Contains, All}
use Rattle.std.proofs.lemmas.Bool.{cases_eq, false≢true}
use Rattle.std.proofs.lemmas.List.{get_or-set_same, get_or-set_other}
use Rattle.std.proofs.lemmas.List.Elements.{Contains-append_left, Contains-append_right, Contains-append_cases}
use Rattle.xs_positions.specs.Sets.{row}
use Rattle.xs_positions.specs.Positions.{Table}
use Rattle.content_automaton.specs.Moves.{Has, AreListed, IsWithin, Comes}
use Rattle.content_automaton.proofs.Members.{all_within, none_contained}
use Rattle.content_automaton.proofs.Moving.{contains_one, taken_cases, taken_from}

-- a number that comes in
has_set : (flags : List Bool) (p q : ℕ) → Has (set flags p true) q → Has flags q ⊎ (q ≡ p)
has_set flags p q h = elim (cases_eq q p) [
  | inl e ↦ inr e
  | inr n ↦ inl (sym (get_or-set_other flags p q true false n) ∙ h)
]

set_has : (flags : List Bool) (p q : ℕ) → p < length flags → Has flags q ⊎ (q ≡ p) → Has (set flags p true) q
set_has flags p q l (inr e) = ap (λ x. get_or (set flags p true) x false) e ∙ get_or-set_same flags p true false l
set_has flags p q l (inl h) = elim (cases_eq q p) [
  | inl e ↦ ap (λ x. get_or (set flags p true) x false) e ∙ get_or-set_same flags p true false l
  | inr n ↦ get_or-set_other flags p q true false n ∙ h
]

-- ---- a list, with a flag for each of its numbers
module _ (flags : List Bool) (list : List ℕ) (n : ℕ) (are : AreListed flags list) where
  pub listed_there : Has flags n → (p : ℕ) → Contains list p ↔ (Contains list p ⊎ (p ≡ n))
  listed_there has p = (
    (λ c. inl c),
    (λ h. elim h [
      | inl c ↦ c
      | inr e ↦ rw e ((are n).0 has)
    ]),
  )

  module _ (new : List ℕ) (is : new ≡ list ++ n ∷ []) where
    pub listed_new : (p : ℕ) → Contains new p ↔ (Contains list p ⊎ (p ≡ n))
    listed_new p = rw is (
      (λ c. elim (Contains-append_cases list (n ∷ []) p c) [
        | inl a ↦ inl a
        | inr b ↦ inr (contains_one n p b)
      ]),
      (λ h. elim h [
        | inl a ↦ Contains-append_left list (n ∷ []) p a
        | inr e ↦ Contains-append_right list (n ∷ []) p (0, omega arith, sym e)
      ]),
    )

    pub listed_more : n < length flags → AreListed (set flags n true) new
    listed_more l p = (
      (λ h. (listed_new p).1 (elim (has_set flags n p h) [
        | inl a ↦ inl ((are p).0 a)
        | inr e ↦ inr e
      ])),
      (λ c. set_has flags n p l (elim ((listed_new p).0 c) [
        | inl a ↦ inl ((are p).1 a)
        | inr e ↦ inr e
      ])),
    )

-- with the next of more numbers
pub put_more : (First Old New : ℕ → Type 0) (more : List ℕ) (i : ℕ) → i < length more → ((p : ℕ) → Old p ↔ (First p ⊎ Contains (take i more) p)) →
    ((p : ℕ) → New p ↔ (Old p ⊎ (p ≡ get_or more i 0))) → (p : ℕ) → New p ↔ (First p ⊎ Contains (take (i + 1) more) p)
put_more First Old New more i l before h p = (
  (λ n. elim ((h p).0 n) [
    | inl a ↦ elim ((before p).0 a) [
      | inl x ↦ inl x
      | inr x ↦ inr (taken_from more i p l (inl x))
    ]
    | inr e ↦ inr (taken_from more i p l (inr e))
  ]),
  (λ n. elim n [
    | inl x ↦ (h p).1 (inl ((before p).1 (inl x)))
    | inr c ↦ elim (taken_cases more i p l c) [
      | inl x ↦ (h p).1 (inl ((before p).1 (inr x)))
      | inr e ↦ (h p).1 (inr e)
    ]
  ]),
)

pub put_whole : (First New : ℕ → Type 0) (more : List ℕ) (i : ℕ) → length more ≤ i → ((p : ℕ) → New p ↔ (First p ⊎ Contains (take i more) p)) → (p : ℕ) → New p ↔ (First p ⊎ Contains more p)
put_whole First New more i l before p = rw (take_all i more l) at (before p)

-- ---- the positions that come next, one position of the set after another
pub come_more : (table : Table) (starts : Bool) (set : List ℕ) (i : ℕ) (Old New : ℕ → Type 0) (follow : List ℕ) → i < length set → follow ≡ row table.follow (get_or set i 0) →
    ((q : ℕ) → Old q ↔ Comes table starts (take i set) q) → ((q : ℕ) → New q ↔ (Old q ⊎ Contains follow q)) → (q : ℕ) → New q ↔ Comes table starts (take (i + 1) set) q
come_more table starts set i Old New follow l e before h q = (
  (λ x. elim ((h q).0 x) [
    | inl a ↦ elim ((before q).0 a) [
      | inl b ↦ inl b
      | inr b ↦ inr (b.0, taken_from set i b.0 l (inl b.1), b.2)
    ]
    | inr c ↦ inr (get_or set i 0, taken_from set i (get_or set i 0) l (inr refl), rw e at c)
  ]),
  (λ x. elim x [
    | inl b ↦ (h q).1 (inl ((before q).1 (inl b)))
    | inr b ↦ elim (taken_cases set i b.0 l b.1) [
      | inl a ↦ (h q).1 (inl ((before q).1 (inr (b.0, a, b.2))))
      | inr k ↦ (h q).1 (inr (rw e (rw k at b.2)))
    ]
  ]),
)

abbrev no_numbers : List ℕ
no_numbers = []

-- those that come first, at the start
pub come_first : (table : Table) (set : List ℕ) (New : ℕ → Type 0) (first : List ℕ) → first ≡ table.first → ((q : ℕ) → New q ↔ (Contains no_numbers q ⊎ Contains first q)) →
    (q : ℕ) → New q ↔ Comes table true (take 0 set) q
come_first table set New first e h q = (
  (λ x. elim ((h q).0 x) [
    | inl c ↦ absurd (none_contained q c)
    | inr c ↦ inl (refl, rw e at c)
  ]),
  (λ x. elim x [
    | inl b ↦ (h q).1 (inr (rw e b.1))
    | inr b ↦ absurd (none_contained b.0 b.1)
  ]),
)

pub come_none : (table : Table) (set : List ℕ) (q : ℕ) → Contains no_numbers q ↔ Comes table false (take 0 set) q
come_none table set q = (
  (λ c. absurd (none_contained q c)),
  (λ x. elim x [
    | inl b ↦ absurd (false≢true b.0)
    | inr b ↦ absurd (none_contained b.0 b.1)
  ]),
)

pub none_listed : (count : ℕ) → AreListed (replicate count false) []
none_listed count p = (
  (λ h. absurd (false≢true (sym (unset count p) ∙ h))),
  (λ c. absurd (none_contained p c)),
)
  where
    unset : (count p : ℕ) → get_or (replicate count false) p false ≡ false
    unset zero p = refl
    unset (suc count) zero = refl
    unset (suc count) (suc p) = unset count p

-- all of them, in their order
pub come_all : (table : Table) (starts : Bool) (set : List ℕ) (i : ℕ) (Seen New : ℕ → Type 0) → length set ≤ i → ((q : ℕ) → Seen q ↔ Comes table starts (take i set) q) → ((q : ℕ) → New q ↔ Seen q) →
    (q : ℕ) → New q ↔ Comes table starts set q
come_all table starts set i Seen New l h m q =
    let e : take i set ≡ set = take_all i set l in
    ((λ c. rw e at ((h q).0 ((m q).0 c))), (λ c. (m q).1 ((h q).1 (rw e c))))

-- what comes next has a flag
module _ (table : Table) (more : List ℕ) (flags : List Bool) (within : IsWithin table) (count : length flags ≡ length table.symbols) where
  pub first_fits : more ≡ table.first → All (λ p. p < length flags) more
  first_fits e = all_within more (length flags) (λ p c. let l = within.first p (rw e at c) in omega arith)

  pub follow_fits : (set : List ℕ) (i : ℕ) → All (λ p. p < length table.symbols) set → i < length set → more ≡ row table.follow (get_or set i 0) → All (λ p. p < length flags) more
  follow_fits set i below l e = all_within more (length flags) (λ p c. let b = within.follow (get_or set i 0) p (below i 0 l) (rw e at c) in omega arith)
