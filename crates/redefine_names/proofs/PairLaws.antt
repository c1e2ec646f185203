-- The pairs of components, one after another.
use Rattle.std.proofs.Common.{◌≡◌, inl, inr, ℕ, zero, suc, ◌+◌, ◌<◌, Bool, true, false, List, [], ◌∷◌, Option, None, Some, length, refl, sym, ap, subst, ◌∙◌, arith}
use Rattle.std.specs.Prelude.{Contains, Result, Ok, Err, IfOk, slice_index_or, if◌then◌else◌}
use Rattle.std.specs.Option.{option_to_list}
use Rattle.std.proofs.lemmas.Bool.{cases_lt, false≢true}
use Rattle.std.proofs.lemmas.Option.{none-some, same_Some, slice_get_within}
use Rattle.std.proofs.lemmas.List.{get_or_past}
use Rattle.std.proofs.lemmas.List.Elements.{Contains-push, Contains-push_cases, Contains-append_left, Contains-append_right, Contains-append_cases}
use Rattle.representations.specs.declared.parts.Representation.{Representation}
use Rattle.set_representations.specs.Numbers.{number_at, number_of, numbers_of}
use Rattle.redefine_names.specs.declared.declared.VersionKind.{VersionKind}
use Rattle.redefine_names.specs.declared.pairs.RedefinedPair.{RedefinedPair}
use Rattle.redefine_names.specs.Numbers.{of_kind, kind_numbers}
use Rattle.redefine_names.specs.Redefined.{HasSelfReference, IsPair, ArePairs}
use Rattle.redefine_names.specs.inside.Steps.{AreMarks, numbered_pair, pair_at, pairs_of}

says : (marked : Bool) (n m : Option ℕ) (pair : RedefinedPair) → (if marked then None else numbered_pair n m) ≡ Some pair → (marked ≡ false) × (n ≡ Some pair.own) × (m ≡ Some pair.original)
says true n m pair e = absurd (none-some pair e)
says false None m pair e = absurd (none-some pair e)
says false (Some own) None pair e = absurd (none-some pair e)
says false (Some own) (Some original) pair e =
    let same : record { own = own; original = original } ≡ pair = same_Some (record { own = own; original = original }) pair e in
    (refl, ap (λ (p : RedefinedPair). Some p.own) same, ap (λ (p : RedefinedPair). Some p.original) same)

said : (marked : Bool) (n m : Option ℕ) (pair : RedefinedPair) → marked ≡ false → n ≡ Some pair.own → m ≡ Some pair.original → (if marked then None else numbered_pair n m) ≡ Some pair
said marked n m pair x y z = rw (x, y, z) refl

in-option : (o : Option RedefinedPair) (pair : RedefinedPair) → Contains (option_to_list o) pair → o ≡ Some pair
in-option None pair c = absurd (let l = c.1 in omega (arith, l))
in-option (Some other) pair c = elim (Contains-push_cases [] other pair c) [ inl none ↦ absurd (let l = none.1 in omega (arith, l)) | inr same ↦ ap Some same ]

in-some : (o : Option RedefinedPair) (pair : RedefinedPair) → o ≡ Some pair → Contains (option_to_list o) pair
in-some o pair e = subst (λ x. Contains (option_to_list x) pair) (sym e) (Contains-push [] pair)

module _ (numbers : List (Option ℕ)) (marks : List Bool) where
  -- a pair of one of these components, from a place on
  abbrev IsAt : ℕ → List (Option ℕ) → RedefinedPair → Type 0
  IsAt from originals pair = (k original : ℕ) × (slice_index_or originals k None ≡ Some original) × (pair_at numbers marks (from + k) (Some original) ≡ Some pair)

  moved : (n m original : ℕ) (pair : RedefinedPair) → n ≡ m → pair_at numbers marks n (Some original) ≡ Some pair → pair_at numbers marks m (Some original) ≡ Some pair
  moved n m original pair e at = subst (λ k. pair_at numbers marks k (Some original) ≡ Some pair) e at

  first : (from : ℕ) (o : Option ℕ) (os : List (Option ℕ)) (pair : RedefinedPair) → pair_at numbers marks from o ≡ Some pair → IsAt from (o ∷ os) pair
  first from None os pair e = absurd (none-some pair e)
  first from (Some original) os pair e = (0, original, refl, moved from (from + 0) original pair (omega arith) e)

  pairs-to : (from : ℕ) (originals : List (Option ℕ)) (pair : RedefinedPair) → Contains (pairs_of numbers marks from originals) pair → IsAt from originals pair
  pairs-to from [] pair c = absurd (let l = c.1 in omega (arith, l))
  pairs-to from (o ∷ os) pair c = elim (Contains-append_cases (option_to_list (pair_at numbers marks from o)) (pairs_of numbers marks (suc from) os) pair c) [
    | inl here ↦ first from o os pair (in-option (pair_at numbers marks from o) pair here)
    | inr later ↦ (let x = pairs-to (suc from) os pair later in (suc x.0, x.1, x.2, moved (suc from + x.0) (from + suc x.0) x.1 pair (omega arith) x.3))
  ]

  pairs-from : (from : ℕ) (originals : List (Option ℕ)) (k original : ℕ) (pair : RedefinedPair) → slice_index_or originals k None ≡ Some original → pair_at numbers marks (from + k) (Some original) ≡ Some pair →
      Contains (pairs_of numbers marks from originals) pair
  pairs-from from [] k original pair is at = absurd (none-some original is)
  pairs-from from (o ∷ os) zero original pair is at =
      Contains-append_left (option_to_list (pair_at numbers marks from o)) (pairs_of numbers marks (suc from) os) pair
      (in-some (pair_at numbers marks from o) pair (ap (pair_at numbers marks from) is ∙ moved (from + 0) from original pair (omega arith) at))
  pairs-from from (o ∷ os) (suc k) original pair is at =
      Contains-append_right (option_to_list (pair_at numbers marks from o)) (pairs_of numbers marks (suc from) os) pair
      (pairs-from (suc from) os k original pair is (moved (from + suc k) (suc from + k) original pair (omega arith) at))

-- ---- places
some-within : (xs : List (Option ℕ)) (k x : ℕ) → slice_index_or xs k None ≡ Some x → k < length xs
some-within xs k x is = elim (cases_lt k (length xs)) [ inl l ↦ l | inr past ↦ absurd (none-some x (sym (get_or_past xs k None past) ∙ is)) ]

numbered : {T : Type 0} (build : Representation → List T) (before : ℕ) (reps : List Representation) → length (numbers_of build before reps) ≡ length reps
numbered build before [] = refl
numbered build before (rep ∷ reps) = ap (λ (n : ℕ). suc n) (numbered build (before + length (build rep)) reps)

module _ (reps : List Representation) (originals : List (Option ℕ)) (marks : List Bool) (are : AreMarks reps originals (length reps) marks) where
  self-marked : (version : ℕ) → version < length reps → HasSelfReference reps originals version → slice_index_or marks version false ≡ true
  self-marked version l x = (are.right version l).1 (x.0, slice_get_within reps x.0 x.1.rep x.1.there, x.1)

  unmarked : (version : ℕ) → version < length reps → (HasSelfReference reps originals version → ⊥) → slice_index_or marks version false ≡ false
  unmarked version l never = by (slice_index_or marks version false) refl
    where
      by : (b : Bool) → slice_index_or marks version false ≡ b → slice_index_or marks version false ≡ false
      by false e = e
      by true e = absurd (let x = (are.right version l).0 e in never (x.0, x.2))

  pub are-pairs : (kind : VersionKind) (numbers : List (Option ℕ)) → numbers ≡ kind_numbers kind reps → (pairs : List RedefinedPair) → pairs ≡ pairs_of numbers marks 0 originals → ArePairs reps originals (kind_numbers kind reps) pairs
  are-pairs kind numbers same pairs e = subst (λ ns. ArePairs reps originals ns pairs) same (λ pair. (to pair, from pair))
    where
      long : length numbers ≡ length reps
      long = ap length same ∙ numbered (of_kind kind) 0 reps

      within : (version n : ℕ) → number_at numbers version ≡ Some n → version < length reps
      within version n is = let l = some-within numbers version n is in omega (arith, l, long)

      to : (pair : RedefinedPair) → Contains pairs pair → IsPair reps originals numbers pair
      to pair c =
          let x = pairs-to numbers marks 0 originals pair (subst (λ ps. Contains ps pair) e c) in
          let at = moved numbers marks (0 + x.0) x.0 x.1 pair (omega arith) x.3 in
          let s = says (slice_index_or marks x.0 false) (number_at numbers x.0) (number_at numbers x.1) pair at in
          (x.0, x.1, record { is = x.2; alone = λ self. false≢true (sym s.0 ∙ self-marked x.0 (within x.0 pair.own s.1) self) }, s.1, s.2)

      from : (pair : RedefinedPair) → IsPair reps originals numbers pair → Contains pairs pair
      from pair x =
          let at = said (slice_index_or marks x.0 false) (number_at numbers x.0) (number_at numbers x.1) pair (unmarked x.0 (within x.0 pair.own x.3) x.2.alone) x.3 x.4 in
          subst (λ ps. Contains ps pair) (sym e) (pairs-from numbers marks 0 originals x.0 x.1 pair x.2.is (moved numbers marks x.0 (0 + x.0) x.1 pair (omega arith) at))

  pub all-pairs : {V E : Type 0} (items : V → List RedefinedPair) (kind : VersionKind) (numbers : List (Option ℕ)) → numbers ≡ kind_numbers kind reps → (r : Result V E) → IfOk r (λ v. items v ≡ pairs_of numbers marks 0 originals) →
      IfOk r (λ v. ArePairs reps originals (kind_numbers kind reps) (items v))
  all-pairs items kind numbers same (Ok v) e = are-pairs kind numbers same (items v) e
  all-pairs items kind numbers same (Err error) e = tt

-- ---- other builders of as many components have the same numbers
alike-number : {T U : Type 0} (xs : List T) (ys : List U) (before : ℕ) → length xs ≡ length ys → number_of xs before ≡ number_of ys before
alike-number [] [] before e = refl
alike-number [] (y ∷ ys) before e = absurd (omega (arith, e))
alike-number (x ∷ xs) [] before e = absurd (omega (arith, e))
alike-number (x ∷ xs) (y ∷ ys) before e = refl

pub numbers-alike : {T U : Type 0} (one : Representation → List T) (other : Representation → List U) → ((rep : Representation) → length (one rep) ≡ length (other rep)) → (before : ℕ) (reps : List Representation) →
    numbers_of one before reps ≡ numbers_of other before reps
numbers-alike one other same before [] = refl
numbers-alike one other same before (rep ∷ reps) =
    ap (λ n. n ∷ numbers_of one (before + length (one rep)) reps) (alike-number (one rep) (other rep) before (same rep))
    ∙ (ap (λ k. number_of (other rep) before ∷ numbers_of one (before + k) reps) (same rep)
    ∙ ap (λ ns. number_of (other rep) before ∷ ns) (numbers-alike one other same (before + length (other rep)) reps))
