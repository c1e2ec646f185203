-- Looking up a set among the states.
use Rattle.std.proofs.Common.{◌≡◌, ◌≢◌, ℕ, zero, suc, ◌+◌, ◌<◌, ◌≤◌, ◌==◌, Bool, true, false, List, [], ◌∷◌, ◌++◌, length, map, get_or, refl, ap, sym, ◌∙◌, inl, inr, arith, below_more, eqb-true}
use Rattle.std.specs.Cmp.Lexicographic.{pointwise}
use Rattle.std.proofs.lemmas.Bool.{both_ways, or_left, or_right}
use Rattle.std.proofs.lemmas.Bool.Decides.{Decides-eqb}
use Rattle.std.specs.Prelude.{Some, if◌then◌else◌}
use Rattle.std.specs.List.{position, list_any}
use Rattle.std.proofs.lemmas.List.{get_or-map, get_or_past, length-map, map-append, length_push, get_or_push}
use Rattle.std.proofs.lemmas.List.Quantifiers.{position-Some}
use Rattle.std.proofs.lemmas.Slice.Eq.{slice_eq-Decides}
use Rattle.content_automaton.specs.Built.{set_of, IsNew, IsNumbered}
use Rattle.content_automaton.specs.Outcome.{WhereTooMany}
use Rattle.content_automaton.specs.declared.stop.Stop.{Stop}
use Rattle.content_automaton.specs.declared.stop.Stop.TheVariants.{Memory, TooManyStates}

pub set_at : {X : Type 0} (f : X → List ℕ) (xs : List X) (i : ℕ) (x : X) → i < length xs → x ≡ get_or xs i x → set_of (map f xs) i ≡ f x
set_at f xs i x l e = get_or-map f xs i x [] l ∙ ap f (sym e)

none_left : (xs : List ℕ) → length xs ≡ 0 → xs ≡ []
none_left [] e = refl
none_left (x ∷ xs) e = absurd (omega arith)

-- the empty set
pub numbered_dead : {X : Type 0} (f : X → List ℕ) (xs : List X) (set : List ℕ) (n : ℕ) (b : Bool) → length xs ≤ 2048 → b ≡ (n == 0) → b ≡ true → n ≡ length set →
    IsNumbered (map f xs) (map f xs) set 65535
numbered_dead f xs set n b few t y k =
    let e : set ≡ [] = none_left set (let z : n ≡ 0 = eqb-true n 0 (sym t ∙ y) in omega arith) in
    let l : length (map f xs) ≡ length xs = length-map xs f in
    record { grown = inl refl; is = get_or_past (map f xs) 65535 [] (omega arith) ∙ sym e; number = record { not_start = omega arith; live = inr (omega arith) }; few = omega arith }

-- a set that was found
pub numbered_found : {X : Type 0} (f : X → List ℕ) (xs : List X) (set : List ℕ) (i : ℕ) (x : X) (b : Bool) → length xs ≤ 2048 → i < length xs → x ≡ get_or xs i x →
    b ≡ pointwise (λ y z. y == z) (f x) set → b ≡ true → set_of (map f xs) 0 ≡ [] → set ≢ [] → IsNumbered (map f xs) (map f xs) set i
numbered_found f xs set i x b few l e t y start filled =
    let same : f x ≡ set = (slice_eq-Decides Decides-eqb (f x) set b t).0 y in
    let is : set_of (map f xs) i ≡ set = set_at f xs i x l e ∙ same in
    let m : length (map f xs) ≡ length xs = length-map xs f in
    record { grown = inl refl; is = is; number = record { not_start = not_first i is; live = inl (omega arith) }; few = omega arith }
  where
    not_first : (i : ℕ) → set_of (map f xs) i ≡ set → 0 < i
    not_first zero k = absurd (filled (sym k ∙ start))
    not_first (suc i) k = omega arith

-- one more state has another set
pub not_found_more : {X : Type 0} (f : X → List ℕ) (xs : List X) (set : List ℕ) (i : ℕ) (x : X) (b : Bool) → i < length xs → x ≡ get_or xs i x →
    b ≡ pointwise (λ y z. y == z) (f x) set → b ≡ false → ((k : ℕ) → k < i → set_of (map f xs) k ≢ set) → (k : ℕ) → k < i + 1 → set_of (map f xs) k ≢ set
not_found_more f xs set i x b l e t n before =
    below_more (λ k. set_of (map f xs) k ≢ set) i before
    (λ k. both_ways b n ((slice_eq-Decides Decides-eqb (f x) set b t).1 (sym (set_at f xs i x l e) ∙ k)))

pub not_empty_set : (set : List ℕ) (n : ℕ) (b : Bool) → b ≡ (n == 0) → b ≡ false → n ≡ length set → set ≢ []
not_empty_set [] zero b t y k e = both_ways b y t
not_empty_set [] (suc n) b t y k e = absurd (omega arith)
not_empty_set (x ∷ set) n b t y k e = cc

pub where_both : (P Q R : Type 0) (stop : Stop) → WhereTooMany stop P → WhereTooMany stop Q → (P → Q → R) → WhereTooMany stop R
where_both P Q R Memory p q h = tt
where_both P Q R TooManyStates p q h = h p q

pub where_then : (P Q : Type 0) (stop : Stop) → WhereTooMany stop P → (P → Q) → WhereTooMany stop Q
where_then P Q Memory p h = tt
where_then P Q TooManyStates p h = h p

-- ---- the same over a set that keeps its order
module _ {X : Type 0} (f : X → List ℕ) (xs : List X) (set : List ℕ) where
  pub numbered_same : (i : ℕ) → length xs ≤ 2048 → i < length xs → set_of (map f xs) i ≡ set → set_of (map f xs) 0 ≡ [] → set ≢ [] → IsNumbered (map f xs) (map f xs) set i
  numbered_same i few l is start filled =
      let m : length (map f xs) ≡ length xs = length-map xs f in
      record { grown = inl refl; is = is; number = record { not_start = not_first i is; live = inl (omega arith) }; few = omega arith }
    where
      not_first : (i : ℕ) → set_of (map f xs) i ≡ set → 0 < i
      not_first zero k = absurd (filled (sym k ∙ start))
      not_first (suc i) k = omega arith

  pub place_found : (i : ℕ) (x : X) → Some i ≡ position (λ y. pointwise (λ a b. a == b) set (f y)) xs → length xs ≤ 2048 → set_of (map f xs) 0 ≡ [] → set ≢ [] → IsNumbered (map f xs) (map f xs) set i
  place_found i x e few start filled =
      let p = position-Some (λ y. pointwise (λ a b. a == b) set (f y)) xs i x (sym e) in
      let same : set ≡ f (get_or xs i x) = (slice_eq-Decides Decides-eqb set (f (get_or xs i x)) (pointwise (λ a b. a == b) set (f (get_or xs i x))) refl).0 p.1 in
      numbered_same i few p.0 (get_or-map f xs i x [] p.0 ∙ sym same) start filled

  any_set : (ys : List X) (k : ℕ) → k < length (map f ys) → set_of (map f ys) k ≡ set → list_any (λ y. pointwise (λ a b. a == b) set (f y)) ys ≡ true
  any_set [] k l e = absurd (omega arith)
  any_set (y ∷ ys) zero l e =
      or_left (pointwise (λ a b. a == b) set (f y)) (list_any (λ y. pointwise (λ a b. a == b) set (f y)) ys)
      ((slice_eq-Decides Decides-eqb set (f y) (pointwise (λ a b. a == b) set (f y)) refl).1 (sym e))
  any_set (y ∷ ys) (suc k) l e =
      or_right (pointwise (λ a b. a == b) set (f y)) (list_any (λ y. pointwise (λ a b. a == b) set (f y)) ys) (any_set ys k (omega arith) e)

  pub none_found : (b : Bool) → b ≡ list_any (λ y. pointwise (λ a b. a == b) set (f y)) xs → b ≡ false → set ≢ [] → IsNew (map f xs) set
  none_found b e n filled = record { filled = filled; other = λ k l same. both_ways b n (e ∙ any_set xs k l same) }

  pub placed_new : (b : Bool) (x : X) (xs' : List X) → b ≡ list_any (λ y. pointwise (λ a b. a == b) set (f y)) xs → b ≡ false →
      xs' ≡ (if list_any (λ y. pointwise (λ a b. a == b) set (f y)) xs then xs else xs ++ x ∷ []) → f x ≡ set → set ≢ [] → 0 < length xs → length xs < 2048 →
      IsNumbered (map f xs) (map f xs') set (length xs)
  placed_new b x xs' e n ks same filled some few =
      let t : list_any (λ y. pointwise (λ a b. a == b) set (f y)) xs ≡ false = sym e ∙ n in
      let k : xs' ≡ xs ++ x ∷ [] = rw t at ks in
      let m : map f xs' ≡ map f xs ++ set ∷ [] = ap (map f) k ∙ (map-append f xs (x ∷ []) ∙ ap (λ z. map f xs ++ z ∷ []) same) in
      let l : length (map f xs) ≡ length xs = length-map xs f in
      let c : length (map f xs') ≡ length (map f xs) + 1 = ap length m ∙ length_push (map f xs) set in
      record {
        grown = inr (m, none_found b e n filled);
        is = ap (λ z. set_of z (length xs)) m ∙ get_or_push (map f xs) set [] (length xs) l;
        number = record { not_start = some; live = inl (omega arith) };
        few = omega arith;
      }
