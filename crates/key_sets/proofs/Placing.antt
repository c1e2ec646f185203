-- Places of keys, when one more comes last.
use Rattle.std.proofs.Common.{◌≡◌, ℕ, ◌+◌, ◌<◌, Bool, true, false, cond, List, [], ◌∷◌, ◌++◌, length, map, Option, Some, None, position, bytes_eq, refl, sym, ap, subst, ◌∙◌, arith}
use Rattle.std.specs.Cmp.{IsEquivalence}
use Rattle.std.specs.Cmp.Lexicographic.{nat_list_eq_equiv}
use Rattle.std.specs.List.{list_any, position_from}
use Rattle.std.specs.Map.{lookup, IsKeyTest, AreApart, KeepsOthers}
use Rattle.std.specs.Prelude.{IfSome}
use Rattle.std.proofs.lemmas.Iterator.Adapters.{position_from-zero}
use Rattle.std.proofs.lemmas.List.{map_push}
use Rattle.std.proofs.lemmas.Option.{none-some, same_Some}
use Rattle.std.proofs.lemmas.Slice.Eq.{bytes_eq-Decides}
use Rattle.key_sets.specs.Keys.{with_key, ArePlaces, AreTextPlaces}

module _ {X : Type 0} (test : X → Bool) where
  -- what is found from a place, in front of one item and of all
  from-failed : (i : ℕ) (xs : List X) (x : X) → test x ≡ false → position_from test i (xs ++ x ∷ []) ≡ position_from test i xs
  from-failed i [] x e = rw e refl
  from-failed i (y ∷ ys) x e = ap (λ r. cond (test y) (Some i) r) (from-failed (i + 1) ys x e)

  from-new : (i : ℕ) (xs : List X) (x : X) → position_from test i xs ≡ None → test x ≡ true → position_from test i (xs ++ x ∷ []) ≡ Some (i + length xs)
  from-new i [] x e t = rw t (ap Some (omega arith))
  from-new i (y ∷ ys) x e t = by (test y) refl (from-new (i + 1) ys x)
    where
      by : (b : Bool) → test y ≡ b → (position_from test (i + 1) ys ≡ None → test x ≡ true → position_from test (i + 1) (ys ++ x ∷ []) ≡ Some (i + 1 + length ys))
          → cond (test y) (Some i) (position_from test (i + 1) (ys ++ x ∷ [])) ≡ Some (i + length (y ∷ ys))
      by true f rest = absurd (none-some i (sym e ∙ ap (λ b. cond b (Some i) (position_from test (i + 1) ys)) f))
      by false f rest =
          let none : position_from test (i + 1) ys ≡ None = sym (ap (λ b. cond b (Some i) (position_from test (i + 1) ys)) f) ∙ e in
          ap (λ b. cond b (Some i) (position_from test (i + 1) (ys ++ x ∷ []))) f ∙ rest none t ∙ ap Some (omega arith)

  any-none : (i : ℕ) (xs : List X) → position_from test i xs ≡ None → list_any test xs ≡ false
  any-none i [] e = refl
  any-none i (y ∷ ys) e = by (test y) refl (any-none (i + 1) ys)
    where
      by : (b : Bool) → test y ≡ b → (position_from test (i + 1) ys ≡ None → list_any test ys ≡ false) → list_any test (y ∷ ys) ≡ false
      by true f rest = absurd (none-some i (sym e ∙ ap (λ b. cond b (Some i) (position_from test (i + 1) ys)) f))
      by false f rest = rw f (rest (sym (ap (λ b. cond b (Some i) (position_from test (i + 1) ys)) f) ∙ e))

  any-some : (i n : ℕ) (xs : List X) → position_from test i xs ≡ Some n → list_any test xs ≡ true
  any-some i n [] e = absurd (none-some n e)
  any-some i n (y ∷ ys) e = by (test y) refl (any-some (i + 1) n ys)
    where
      by : (b : Bool) → test y ≡ b → (position_from test (i + 1) ys ≡ Some n → list_any test ys ≡ true) → list_any test (y ∷ ys) ≡ true
      by true f rest = rw f refl
      by false f rest = rw f (rest (sym (ap (λ b. cond b (Some i) (position_from test (i + 1) ys)) f) ∙ e))

  -- an item more that does not pass, and the first that does
  pub position-failed : (xs : List X) (x : X) → test x ≡ false → position test (xs ++ x ∷ []) ≡ position test xs
  position-failed xs x e = position_from-zero test (xs ++ x ∷ []) ∙ from-failed 0 xs x e ∙ sym (position_from-zero test xs)

  pub position-new : (xs : List X) (x : X) → position test xs ≡ None → test x ≡ true → position test (xs ++ x ∷ []) ≡ Some (length xs)
  position-new xs x e t = position_from-zero test (xs ++ x ∷ []) ∙ from-new 0 xs x (sym (position_from-zero test xs) ∙ e) t ∙ ap Some (omega arith)

  -- whether an item passes, by its place
  pub any-absent : (xs : List X) → position test xs ≡ None → list_any test xs ≡ false
  any-absent xs e = any-none 0 xs (sym (position_from-zero test xs) ∙ e)

  pub any-present : (n : ℕ) (xs : List X) → position test xs ≡ Some n → list_any test xs ≡ true
  any-present n xs e = any-some 0 n xs (sym (position_from-zero test xs) ∙ e)

  -- what is found is within
  from-within : (i n : ℕ) (xs : List X) → position_from test i xs ≡ Some n → n < i + length xs
  from-within i n [] e = absurd (none-some n e)
  from-within i n (y ∷ ys) e = by (test y) refl (from-within (i + 1) n ys)
    where
      by : (b : Bool) → test y ≡ b → (position_from test (i + 1) ys ≡ Some n → n < i + 1 + length ys) → n < i + length (y ∷ ys)
      by true f rest = let here : i ≡ n = same_Some i n (sym (ap (λ b. cond b (Some i) (position_from test (i + 1) ys)) f) ∙ e) in omega (arith, here)
      by false f rest = omega (arith, rest (sym (ap (λ b. cond b (Some i) (position_from test (i + 1) ys)) f) ∙ e))

  pub found-within : (xs : List X) (found : Option ℕ) → found ≡ position test xs → IfSome found (λ n. n < length xs)
  found-within xs None e = tt
  found-within xs (Some n) e = omega (arith, from-within 0 n xs (sym (position_from-zero test xs) ∙ sym e))

module _ {K : Type 0} (eq : K → K → Bool) where
  -- a key that is there, and one that is not
  pub with_key-old : (keys : List K) (key : K) (n : ℕ) → position (eq key) keys ≡ Some n → with_key eq keys key ≡ keys
  with_key-old keys key n e = let there : list_any (eq key) keys ≡ true = any-present (eq key) n keys e in rw there refl

  pub with_key-new : (keys : List K) (key : K) → position (eq key) keys ≡ None → with_key eq keys key ≡ keys ++ key ∷ []
  with_key-new keys key e = let there : list_any (eq key) keys ≡ false = any-absent (eq key) keys e in rw there refl

  module _ (laws : IsEquivalence eq) where
    same_test : (x y : K) → eq x y ≡ true → eq x ≡ eq y
    same_test x y e = λ i z. laws.congr x y z e i

    -- the places with a new key, which has the next one
    pub places-more : (keys : List K) (key : K) (old new : List (K × ℕ)) → position (eq key) keys ≡ None
        → ((other : K) → lookup (eq other) new ≡ cond (eq key other) (Some (length keys)) (lookup (eq other) old))
        → ArePlaces eq keys old → ArePlaces eq (keys ++ key ∷ []) new
    places-more keys key old new absent updates places other = updates other ∙ by (eq key other) refl
      where
        by : (b : Bool) → eq key other ≡ b → cond b (Some (length keys)) (lookup (eq other) old) ≡ position (eq other) (keys ++ key ∷ [])
        by true e =
            let none : position (eq other) keys ≡ None = ap (λ test. position test keys) (sym (same_test key other e)) ∙ absent in
            sym (position-new (eq other) keys key none (laws.symm other key ∙ e))
        by false e = places other ∙ sym (position-failed (eq other) keys key (laws.symm other key ∙ e))

-- what another query finds
other_entries : {K : Type 0} (eq : K → K → Bool) (test : K → Bool) (old new : List (K × ℕ)) → KeepsOthers eq test old new → (other : K → Bool) → IsKeyTest eq other → AreApart test other → lookup other new ≡ lookup other old
unfolding KeepsOthers
other_entries eq test old new h = h

-- the places with a new text
module _ {K : Type 0} (bytes : K → List ℕ) where
  pub text_places-more : (texts : List (List ℕ)) (key : K) (old new : List (K × ℕ)) → position (bytes_eq (bytes key)) texts ≡ None
      → lookup (λ k. bytes_eq (bytes key) (bytes k)) new ≡ Some (length texts)
      → KeepsOthers (λ x y. bytes_eq (bytes x) (bytes y)) (λ k. bytes_eq (bytes key) (bytes k)) old new
      → AreTextPlaces bytes texts old → AreTextPlaces bytes (texts ++ bytes key ∷ []) new
  text_places-more texts key old new absent here others places text = by (bytes_eq (bytes key) text) refl
    where
      by : (b : Bool) → bytes_eq (bytes key) text ≡ b → lookup (λ k. bytes_eq text (bytes k)) new ≡ position (bytes_eq text) (texts ++ bytes key ∷ [])
      by true e =
          subst (λ (t : List ℕ). lookup (λ k. bytes_eq t (bytes k)) new ≡ position (bytes_eq t) (texts ++ bytes key ∷ [])) ((bytes_eq-Decides (bytes key) text).0 e)
          (here ∙ sym (position-new (bytes_eq (bytes key)) texts (bytes key) absent (nat_list_eq_equiv.refl (bytes key))))
      by false e =
          let turned : bytes_eq text (bytes key) ≡ false = nat_list_eq_equiv.symm text (bytes key) ∙ e in
          other_entries (λ x y. bytes_eq (bytes x) (bytes y)) (λ k. bytes_eq (bytes key) (bytes k)) old new others (λ k. bytes_eq text (bytes k))
          (λ x y. nat_list_eq_equiv.congr text (bytes x) (bytes y))
          (λ k t. nat_list_eq_equiv.symm text (bytes k) ∙ sym (nat_list_eq_equiv.congr (bytes key) (bytes k) text t) ∙ e)
          ∙ places text ∙ sym (position-failed (bytes_eq text) texts (bytes key) turned)

  -- the texts with a copy of one more
  pub texts-more : (keys new : List K) (copy : K) (text : List ℕ) → new ≡ keys ++ copy ∷ [] → bytes copy ≡ text → map bytes new ≡ map bytes keys ++ text ∷ []
  texts-more keys new copy text put same = ap (map bytes) put ∙ map_push bytes keys copy ∙ ap (λ t. map bytes keys ++ t ∷ []) same
