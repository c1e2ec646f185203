-- The first document with a target namespace.
use Rattle.std.proofs.Common.{◌≡◌, ℕ, zero, suc, ◌+◌, ◌-◌, ◌<◌, ◌≤◌, List, [], ◌∷◌, length, drop, get_or, Bool, true, false, Option, None, Some, add-one, refl, sym, ap, ◌∙◌, subst, arith}
use Rattle.std.specs.Prelude.{slice_get, option_and_then}
use Rattle.std.proofs.lemmas.Bool.{false≢true}
use Rattle.std.proofs.lemmas.List.{at_drop_more, at_drop_all}
use Rattle.std.proofs.lemmas.Option.{none-some, same_Some, slice_get_within}
use Rattle.std.proofs.lemmas.Slice.Eq.{bytes_eq-Decides}
use Rattle.schema_set.specs.EffectiveSet.{own_target}
use Rattle.schema_set.specs.declared.documents.Available.{Available}
use Rattle.schema_set.specs.Order.{same_target, own_target_of, target_place}

same-is : (a b : Option (List ℕ)) → same_target a b ≡ true → a ≡ b
same-is None None e = refl
same-is None (Some b) e = absurd (false≢true e)
same-is (Some a) None e = absurd (false≢true e)
same-is (Some a) (Some b) e = ap Some ((bytes_eq-Decides a b).0 e)

same-itself : (a : Option (List ℕ)) → same_target a a ≡ true
same-itself None = refl
same-itself (Some a) = (bytes_eq-Decides a a).1 refl

abbrev own : Available → Option (List ℕ)
own a = own_target a.shaped.shapes

-- some document has it as its own at the place
abbrev Found : List Available → Option (List ℕ) → Type 0
Found xs t = (c : Available) × (slice_get xs (target_place xs t) ≡ Some c) × (own c ≡ t)

slice-next : (a : Available) (xs : List Available) (n : ℕ) → slice_get (a ∷ xs) (n + 1) ≡ slice_get xs n
slice-next a xs n = ap (λ k. slice_get (a ∷ xs) k) (add-one n)

found-here : (a : Available) (others : List Available) (t : Option (List ℕ)) → own a ≡ t → Found (a ∷ others) t
found-here a others t e =
    let s : same_target (own a) t ≡ true = subst (λ u. same_target (own a) u ≡ true) e (same-itself (own a)) in
    let z : target_place (a ∷ others) t ≡ 0 = rw s refl in
    (a, ap (λ k. slice_get (a ∷ others) k) z, e)

found-later : (a : Available) (others : List Available) (t : Option (List ℕ)) → Found others t → (r : Bool) → same_target (own a) t ≡ r → Found (a ∷ others) t
found-later a others t f true s = found-here a others t (same-is (own a) t s)
found-later a others t f false s =
    let z : target_place (a ∷ others) t ≡ target_place others t + 1 = rw s refl in
    (f.0, ap (λ k. slice_get (a ∷ others) k) z ∙ slice-next a others (target_place others t) ∙ f.1, f.2)

place-found : (xs : List Available) (i : ℕ) (b : Available) → slice_get xs i ≡ Some b → Found xs (own b)
place-found [] i b e = absurd (none-some b e)
place-found (a ∷ others) zero b e = found-here a others (own b) (ap own (same_Some a b e))
place-found (a ∷ others) (suc i) b e = found-later a others (own b) (place-found others i b e) (same_target (own a) (own b)) refl

pub place-le : (xs : List Available) (t : Option (List ℕ)) → target_place xs t ≤ length xs
place-le [] t = omega arith
place-le (a ∷ others) t = by (same_target (own a) t) refl (place-le others t)
  where
    by : (r : Bool) → same_target (own a) t ≡ r → target_place others t ≤ length others → target_place (a ∷ others) t ≤ length (a ∷ others)
    by true s rest = let z : target_place (a ∷ others) t ≡ 0 = rw s refl in omega (arith, z)
    by false s rest = let z : target_place (a ∷ others) t ≡ target_place others t + 1 = rw s refl in omega (arith, z, rest)

module _ (available : List Available) where
  pub own-read : (place : ℕ) (a : Available) → slice_get available place ≡ Some a → own_target_of available (place + 1) ≡ own_target a.shaped.shapes
  own-read place a e =
      let same : place + 1 - 1 ≡ place = omega arith in
      ap (λ k. option_and_then own (slice_get available k)) same ∙ ap (option_and_then own) e

  -- the own target namespace of a document has a place, and stands there
  pub place-within : (i : ℕ) (b : Available) → slice_get available i ≡ Some b → target_place available (own_target b.shaped.shapes) < length available
  place-within i b e = let f = place-found available i b e in slice_get_within available (target_place available (own b)) f.0 f.1

  pub place-own : (i : ℕ) (b : Available) → slice_get available i ≡ Some b → own_target_of available (target_place available (own_target b.shaped.shapes) + 1) ≡ own_target b.shaped.shapes
  place-own i b e = let f = place-found available i b e in own-read (target_place available (own b)) f.0 f.1 ∙ f.2

  -- the search for the first
  pub place-later : (t : Option (List ℕ)) (i : ℕ) (x : Available) → i < length available → x ≡ get_or available i x → same_target (own_target x.shaped.shapes) t ≡ false
      → target_place available t ≡ i + target_place (drop i available) t → target_place available t ≡ i + 1 + target_place (drop (i + 1) available) t
  place-later t i x h is e so_far =
      let split : target_place (drop i available) t ≡ target_place (x ∷ drop (i + 1) available) t =
      at_drop_more (λ ys. target_place ys t) available i x h ∙ ap (λ y. target_place (y ∷ drop (i + 1) available) t) (sym is) in
      let next : target_place (x ∷ drop (i + 1) available) t ≡ target_place (drop (i + 1) available) t + 1 = rw e refl in
      omega (arith, so_far, split, next)

  pub place-here : (t : Option (List ℕ)) (i : ℕ) (x : Available) → i < length available → x ≡ get_or available i x → same_target (own_target x.shaped.shapes) t ≡ true
      → target_place available t ≡ i + target_place (drop i available) t → i ≡ target_place available t
  place-here t i x h is e so_far =
      let split : target_place (drop i available) t ≡ target_place (x ∷ drop (i + 1) available) t =
      at_drop_more (λ ys. target_place ys t) available i x h ∙ ap (λ y. target_place (y ∷ drop (i + 1) available) t) (sym is) in
      let next : target_place (x ∷ drop (i + 1) available) t ≡ 0 = rw e refl in
      omega (arith, so_far, split, next)

  pub place-end : (t : Option (List ℕ)) (i : ℕ) → length available ≤ i → target_place available t ≡ i + target_place (drop i available) t → i ≡ target_place available t
  place-end t i past so_far = let z = at_drop_all (λ ys. target_place ys t) available i past in omega (arith, so_far, z)
