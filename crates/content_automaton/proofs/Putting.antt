-- A position put into the sets of some symbols, and the positions of a set by symbol.
use Rattle.std.proofs.Common.{◌≡◌, ◌≢◌, ℕ, zero, suc, ◌+◌, ◌<◌, ◌≤◌, ◌==◌, ◌||◌, Bool, true, false, List, [], ◌∷◌, ◌++◌, length, map, get_or, take, set, refl, ap, sym, ◌∙◌, inl, inr, arith, append-nil, if◌then◌else◌, eq-eqb, take_all}
use Rattle.std.specs.Prelude.{filter, All}
use Rattle.std.specs.List.{list_any}
use Rattle.std.specs.List.Sorted.{IsStrictlyIncreasing}
use Rattle.std.proofs.lemmas.Bool.{cases_eq}
use Rattle.std.proofs.lemmas.Bool.Decides.{nat_tests}
use Rattle.std.proofs.lemmas.List.{map-set, get_or-map, get_or-take, length-map, length-set, take_more, get_or-set_same, get_or-set_other, length-take-le}
use Rattle.std.proofs.lemmas.List.Folds.{list_any-append, list_any_none}
use Rattle.std.proofs.lemmas.List.Elements.{filter-append}
use Rattle.std.proofs.lemmas.List.Kept.{AllPairs-from_increasing}
use Rattle.content_automaton.specs.Moves.{ArePut}

-- the symbol stands once among those before it
not_before : (row : List ℕ) (i : ℕ) → IsStrictlyIncreasing row → i < length row → list_any (λ m. m == get_or row i 0) (take i row) ≡ false
not_before row i rise l = list_any_none (λ m. m == get_or row i 0) (take i row) (λ k d b.
    let n : length (take i row) ≡ i = length-take-le i row (omega arith) in
    let e : get_or (take i row) k d ≡ get_or row k d = get_or-take i row k d (omega arith) in
    let r : get_or row k 0 < get_or row i 0 = AllPairs-from_increasing row rise k i 0 (omega arith) l in
    other (get_or (take i row) k d) (get_or row i 0) (rw e (let s = same row k d 0 (omega arith) in omega arith)))
  where
    other : (x y : ℕ) → x < y → (x == y) ≡ false
    other x y l = grind (arith, nat_tests)

    same : (row : List ℕ) (k d e : ℕ) → k < length row → get_or row k d ≡ get_or row k e
    same [] k d e l = absurd (omega arith)
    same (x ∷ row) zero d e l = refl
    same (x ∷ row) (suc k) d e l = same row k d e (omega arith)

pub put_none : (old : List (List ℕ)) (p : ℕ) → ArePut old old [] p
put_none old p = record { count = refl; each = λ n l. sym (append-nil (get_or old n [])) }

module _ (old now new : List (List ℕ)) (row : List ℕ) (p i n : ℕ) where
  pub put_more : ArePut old now (take i row) p → IsStrictlyIncreasing row → i < length row → n ≡ get_or row i 0 → n < length now →
      new ≡ set now n (get_or now n [] ++ p ∷ []) → ArePut old new (take (i + 1) row) p
  put_more are rise l is b e = record {
    count = ap length e ∙ (length-set now n (get_or now n [] ++ p ∷ []) ∙ are.count);
    each = λ m k. elim (cases_eq m n) [
      | inl same ↦ (
          let t : list_any (λ x. x == m) (take i row) ≡ false = rw (same, is) (not_before row i rise l) in
          let u : list_any (λ x. x == m) (take (i + 1) row) ≡ true =
          ap (list_any (λ x. x == m)) (take_more row i 0 l) ∙ (list_any-append (λ x. x == m) (take i row) (get_or row i 0 ∷ []) ∙
          rw (t, eq-eqb (get_or row i 0) m (sym is ∙ sym same)) refl) in
          let g : get_or new m [] ≡ get_or now n [] ++ p ∷ [] = ap (λ xs. get_or xs m []) e ∙ (ap (λ k. get_or (set now n (get_or now n [] ++ p ∷ [])) k []) same ∙ get_or-set_same now n (get_or now n [] ++ p ∷ []) [] b) in
          let h : get_or now n [] ≡ get_or old m [] ++ [] = ap (λ k. get_or now k []) (sym same) ∙ (are.each m k ∙ ap (λ x. get_or old m [] ++ (if x then p ∷ [] else [])) t) in
          g ∙ (ap (λ xs. xs ++ p ∷ []) (h ∙ append-nil (get_or old m [])) ∙ ap (λ x. get_or old m [] ++ (if x then p ∷ [] else [])) (sym u)))
      | inr other ↦ (
          let u : list_any (λ x. x == m) (take (i + 1) row) ≡ list_any (λ x. x == m) (take i row) =
          ap (list_any (λ x. x == m)) (take_more row i 0 l) ∙ (list_any-append (λ x. x == m) (take i row) (get_or row i 0 ∷ []) ∙
          (let f : (get_or row i 0 == m) ≡ false = differs (get_or row i 0) m (λ s. other (sym s ∙ sym is)) in
          ap (λ x. list_any (λ x. x == m) (take i row) || x) (rw f refl) ∙ or_false (list_any (λ x. x == m) (take i row)))) in
          ap (λ xs. get_or xs m []) e ∙ (get_or-set_other now n m (get_or now n [] ++ p ∷ []) [] other ∙ (are.each m k ∙ ap (λ x. get_or old m [] ++ (if x then p ∷ [] else [])) (sym u))))
    ];
  }
    where
      differs : (x y : ℕ) → x ≢ y → (x == y) ≡ false
      differs x y d = grind (arith, nat_tests)

      or_false : (b : Bool) → (b || false) ≡ b
      or_false true = refl
      or_false false = refl

-- the positions of the set, by symbol, up to a place
pub filtered_more : (f : ℕ → Bool) (xs : List ℕ) (i p : ℕ) → i < length xs → p ≡ get_or xs i 0 →
    filter f (take (i + 1) xs) ≡ filter f (take i xs) ++ (if f p then p ∷ [] else [])
filtered_more f xs i p l e =
    ap (filter f) (take_more xs i 0 l) ∙ (filter-append f (take i xs) (get_or xs i 0 ∷ []) ∙ ap (λ z. filter f (take i xs) ++ z) (one (f p) refl))
  where
    one : (b : Bool) → f p ≡ b → filter f (get_or xs i 0 ∷ []) ≡ (if f p then p ∷ [] else [])
    one true h = rw (← e, h) refl
    one false h = rw (← e, h) refl

pub put_step : {X : Type 0} (f : X → List ℕ) (olds xs : List X) (row : List ℕ) (p i : ℕ) (x y : X) → ArePut (map f olds) (map f xs) (take i row) p → IsStrictlyIncreasing row →
    All (λ n. n < length olds) row → i < length row → x ≡ get_or xs (get_or row i 0) x → f y ≡ f x ++ p ∷ [] →
    ArePut (map f olds) (map f (set xs (get_or row i 0) y)) (take (i + 1) row) p
put_step f olds xs row p i x y are rise below l is e =
    let n : ℕ = get_or row i 0 in
    let a : length (map f olds) ≡ length olds = length-map olds f in
    let b : length (map f xs) ≡ length xs = length-map xs f in
    let c : length (map f xs) ≡ length (map f olds) = are.count in
    let d : n < length olds = below i 0 l in
    let g : get_or (map f xs) n [] ≡ f x = get_or-map f xs n x [] (omega arith) ∙ ap f (sym is) in
    put_more (map f olds) (map f xs) (map f (set xs n y)) row p i n are rise l refl (omega arith)
    (map-set f xs n y ∙ ap (set (map f xs) n) (e ∙ ap (λ z. z ++ p ∷ []) (sym g)))

pub put_done : (old new : List (List ℕ)) (row : List ℕ) (p i : ℕ) → length row ≤ i → ArePut old new (take i row) p → ArePut old new row p
put_done old new row p i l are = rw (take_all i row l) at are

-- the sets of all symbols hold the positions so far
module _ {X : Type 0} (f : X → List ℕ) (takes : ℕ → ℕ → Bool) (xs : List ℕ) where
  abbrev pub AreSplit : List X → ℕ → Type 0
  AreSplit sets i = (n : ℕ) → n < length sets → get_or (map f sets) n [] ≡ filter (λ p. takes p n) (take i xs)

  pub split_more : (sets new : List X) (symbols : List ℕ) (i p : ℕ) → AreSplit sets i → i < length xs → p ≡ get_or xs i 0 → ArePut (map f sets) (map f new) symbols p →
      ((n : ℕ) → takes p n ≡ list_any (λ m. m == n) symbols) → AreSplit new (i + 1)
  split_more sets new symbols i p are l e put same n b =
      let a : length (map f sets) ≡ length sets = length-map sets f in
      let c : length (map f new) ≡ length new = length-map new f in
      let d = put.count in
      put.each n (omega arith) ∙
      (ap (λ z. z ++ (if list_any (λ m. m == n) symbols then p ∷ [] else [])) (are n (omega arith)) ∙
      (ap (λ x. filter (λ p. takes p n) (take i xs) ++ (if x then p ∷ [] else [])) (sym (same n)) ∙ sym (filtered_more (λ p. takes p n) xs i p l e)))

  pub split_none : (sets : List X) (i p : ℕ) → AreSplit sets i → i < length xs → p ≡ get_or xs i 0 → ((n : ℕ) → takes p n ≡ false) → AreSplit sets (i + 1)
  split_none sets i p are l e none n b =
      are n b ∙ (sym (append-nil (filter (λ p. takes p n) (take i xs))) ∙
      (ap (λ x. filter (λ p. takes p n) (take i xs) ++ (if x then p ∷ [] else [])) (sym (none n)) ∙ sym (filtered_more (λ p. takes p n) xs i p l e)))

-- the sets of the symbols from this one on
abbrev pub AreLeft : {X : Type 0} → (X → List ℕ) → (ℕ → ℕ → Bool) → List ℕ → List X → ℕ → Type 0
AreLeft f takes xs sets from = (k : ℕ) → k < length sets → get_or (map f sets) k [] ≡ filter (λ p. takes p (from + k)) xs

module _ {X : Type 0} (f : X → List ℕ) (takes : ℕ → ℕ → Bool) (xs : List ℕ) (x : X) (sets : List X) (from : ℕ) (are : AreLeft f takes xs (x ∷ sets) from) where
  pub left_head : f x ≡ filter (λ p. takes p from) xs
  left_head = are 0 (omega arith) ∙ ap (λ n. filter (λ p. takes p n) xs) (let e : from + 0 ≡ from = omega arith in e)

  pub left_tail : AreLeft f takes xs sets (from + 1)
  left_tail k l = are (suc k) (omega arith) ∙ ap (λ n. filter (λ p. takes p n) xs) (let e : from + suc k ≡ from + 1 + k = omega arith in e)
