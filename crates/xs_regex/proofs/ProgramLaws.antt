-- The sets of positions lie below the count, and sets along a list.
use Rattle.std.proofs.Common.{◌≡◌, ℕ, zero, suc, ◌+◌, ◌<◌, ◌↔◌, ◌⊎◌, ◌≤◌, Bool, true, List, [], ◌∷◌, ◌++◌, length, get_or, set, take, refl, sym, ◌∙◌, inl, inr, append_assoc, arith}
use Rattle.std.specs.Prelude.{Contains, All, IsTrue, Option, None, Some, IfSome}
use Rattle.xs_positions.specs.Tree.{Tree}
use Rattle.xs_positions.specs.PositionWords.{IsWord, Passes}
use Rattle.xs_positions.specs.Sets.{row}
use Rattle.xs_positions.specs.Positions.{Table, ArePositionsOf}
use Rattle.std.proofs.lemmas.List.{take_all}
use Rattle.xs_regex.specs.Sets.{Has}
use Rattle.xs_regex.specs.Program.{takes, ArePut}
use Rattle.xs_regex.specs.declared.program.Program.{Program}
use Rattle.xs_regex.specs.Listed.{IsListed}
use Rattle.xs_regex.proofs.SetLaws.{has_within, has_set, set_has, taken_cases, taken_from, none_contained}

pub same_at : (xs : List ℕ) (k d e : ℕ) → k < length xs → get_or xs k e ≡ get_or xs k d
same_at [] k d e l = absurd (omega arith)
same_at (x ∷ xs) zero d e l = refl
same_at (x ∷ xs) (suc k) d e l = same_at xs k d e (omega arith)

-- what holds of each number that the list has holds at each index
pub all_contained : (P : ℕ → Type 0) (xs : List ℕ) → ((x : ℕ) → Contains xs x → P x) → All P xs
all_contained P xs f = λ k d l. f (get_or xs k d) (k, l, same_at xs k d (get_or xs k d) l)

module _ (tree : Tree) (table : Table) (are : ArePositionsOf tree table) where
  passes_within : (p : ℕ) → Passes (IsWord tree 0) p → p < length table.symbols
  passes_within p h = let l = are.within p h in let e = are.count in omega arith

  pub first_within : All (λ p. p < length table.symbols) table.first
  first_within = all_contained (λ p. p < length table.symbols) table.first (λ p h. let b = (are.first p).0 h in passes_within p ([], b.0, b.1))

  pub last_within : All (λ p. p < length table.symbols) table.last
  last_within = all_contained (λ p. p < length table.symbols) table.last (λ p h. let b = (are.last p).0 h in passes_within p (b.0, [], b.1))

  pub follow_within : (p : ℕ) → p < length table.symbols → All (λ q. q < length table.symbols) (row table.follow p)
  follow_within p l = all_contained (λ q. q < length table.symbols) (row table.follow p) (λ q h.
      let b = (are.follow p q (let e = are.count in omega arith)).0 h in
      passes_within q (b.0 ++ p ∷ [], b.1, rw (append_assoc b.0 (p ∷ []) (q ∷ b.1)) b.2))

-- some number of the list has both
abbrev pub SomeIn : List ℕ → (ℕ → Type 0) → (ℕ → Type 0) → Type 0
SomeIn xs P Q = (p : ℕ) × Contains xs p × P p × Q p

pub some_in_none : (P Q : ℕ → Type 0) → SomeIn [] P Q → ⊥
some_in_none P Q h = none_contained h.0 h.1

pub some_more : (P Q : ℕ → Type 0) (xs : List ℕ) (i x : ℕ) → i < length xs → x ≡ get_or xs i x → SomeIn (take (i + 1) xs) P Q → SomeIn (take i xs) P Q ⊎ (P x × Q x)
some_more P Q xs i x l e (p, c, a, b) = elim (taken_cases xs i x p l e c) [
  | inl k ↦ inl (p, k, a, b)
  | inr k ↦ inr (rw k at a, rw k at b)
]

pub more_some : (P Q : ℕ → Type 0) (xs : List ℕ) (i x : ℕ) → i < length xs → x ≡ get_or xs i x → SomeIn (take i xs) P Q ⊎ (P x × Q x) → SomeIn (take (i + 1) xs) P Q
more_some P Q xs i x l e (inl (p, c, a, b)) = (p, taken_from xs i x p l e (inl c), a, b)
more_some P Q xs i x l e (inr (a, b)) = (x, taken_from xs i x x l e (inr refl), a, b)

-- one turn along a list: what held of the numbers before, and what this number adds
pub turn : (P Q : ℕ → Type 0) (xs : List ℕ) (i x : ℕ) (Before After : Type 0) → i < length xs → x ≡ get_or xs i x →
    (After ↔ (Before ⊎ (P x × Q x))) → (Before ↔ SomeIn (take i xs) P Q) → (After ↔ SomeIn (take (i + 1) xs) P Q)
turn P Q xs i x Before After l e a b = (
  (λ h. more_some P Q xs i x l e (elim (a.0 h) [ inl k ↦ inl (b.0 k) | inr k ↦ inr k ])),
  (λ h. a.1 (elim (some_more P Q xs i x l e h) [ inl k ↦ inl (b.1 k) | inr k ↦ inr k ])),
)

-- at the end of the list of a set
pub after_turns : (P Q : ℕ → Type 0) (xs : List ℕ) (i : ℕ) (set : List Bool) (Told : Type 0) → length xs ≤ i →
    ((p : ℕ) → Contains xs p ↔ Has set p) → (Told ↔ SomeIn (take i xs) P Q) → (Told ↔ ((p : ℕ) × Has set p × P p × Q p))
after_turns P Q xs i set Told l m t =
    let e : take i xs ≡ xs = take_all i xs l in
    let u : Told ↔ SomeIn xs P Q = rw e at t in (
      (λ h. let k = u.0 h in (k.0, (m k.0).0 k.1, k.2, k.3)),
      (λ h. u.1 (h.0, (m h.0).1 h.1, h.2, h.3)),
    )

pub members_within : (flags : List Bool) (members : List ℕ) (capacity : ℕ) → IsListed flags members capacity → All (λ p. p < length flags) members
members_within flags members capacity h = all_contained (λ p. p < length flags) members (λ p k. has_within flags p ((h.listed p).0 k))

-- ---- numbers of a list that are put into a set where a fact holds of them
pub put_one : (T : ℕ → Type 0) (flags flags' : List Bool) (x : ℕ) → x < length flags → flags' ≡ set flags x true → T x →
    (q : ℕ) → Has flags' q ↔ (Has flags q ⊎ ((q ≡ x) × T q))
put_one T flags flags' x l e t q = rw e (
  (λ h. elim (has_set flags x q l h) [ inl k ↦ inl k | inr k ↦ inr (k, rw k t) ]),
  (λ h. set_has flags x q l (elim h [ inl k ↦ inl k | inr k ↦ inr k.0 ])),
)

pub put_none : (T : ℕ → Type 0) (flags flags' : List Bool) (x : ℕ) → flags' ≡ flags → (T x → ⊥) → (q : ℕ) → Has flags' q ↔ (Has flags q ⊎ ((q ≡ x) × T q))
put_none T flags flags' x e n q = rw e ((λ h. inl h), elim [ inl h ↦ h | inr h ↦ absurd (n (rw h.0 at h.1)) ])

pub put_more : (T : ℕ → Type 0) (old was now : List Bool) (xs : List ℕ) (i x : ℕ) → i < length xs → x ≡ get_or xs i x →
    ((q : ℕ) → Has now q ↔ (Has was q ⊎ ((q ≡ x) × T q))) → ((q : ℕ) → Has was q ↔ (Has old q ⊎ (Contains (take i xs) q × T q))) →
    (q : ℕ) → Has now q ↔ (Has old q ⊎ (Contains (take (i + 1) xs) q × T q))
put_more T old was now xs i x l e one before q = (
  (λ h. elim ((one q).0 h) [
    | inl k ↦ elim ((before q).0 k) [ inl o ↦ inl o | inr o ↦ inr (taken_from xs i x q l e (inl o.0), o.1) ]
    | inr k ↦ inr (taken_from xs i x q l e (inr k.0), k.1)
  ]),
  (λ h. (one q).1 (elim h [
    | inl o ↦ inl ((before q).1 (inl o))
    | inr o ↦ elim (taken_cases xs i x q l e o.0) [ inl a ↦ inl ((before q).1 (inr (a, o.1))) | inr a ↦ inr (a, o.1) ]
  ])),
)

-- ---- the position that is done
pub done_within : (program : Program) (set : List Bool) (c : ℕ) (done : Option ℕ) → IfSome done (ArePut program set c) → IfSome done (λ q. q < length program.positions.symbols)
done_within program set c None h = h
done_within program set c (Some q) h = h.0

pub put_already : (program : Program) (set : List Bool) (c : ℕ) (done : Option ℕ) (p q : ℕ) → IfSome done (ArePut program set c) → done ≡ Some q →
    row program.positions.follow q ≡ row program.positions.follow p → (r : ℕ) → Contains (row program.positions.follow p) r → IsTrue (takes program r c) → Has set r
put_already program set c done p q h e same r k t = let w : ArePut program set c q = rw e at h in w.1 r (rw same k) t
