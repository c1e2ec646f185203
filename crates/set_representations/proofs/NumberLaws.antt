-- Tables with more parts, and numbers below the count of parts.
use Rattle.std.proofs.Common.{◌≡◌, ℕ, zero, suc, ◌+◌, ◌<◌, List, [], ◌∷◌, ◌++◌, Some, map, length, refl, sym, ap, ◌∙◌, arith}
use Rattle.std.specs.List.{flat_map}
use Rattle.std.proofs.lemmas.List.{append_assoc, append-nil, length-append}
use Rattle.std.proofs.lemmas.Option.{none-some, same_Some}
use Rattle.xs_components.specs.Table.{TableOf}
use Rattle.representations.specs.declared.parts.Representation.{Representation}
use Rattle.set_representations.specs.Numbers.{number_of, numbers_of, number_at, with_parts}

module _ {T : Type 0} where
  -- each part has the rank 0
  abbrev zeros : List T → List ℕ
  zeros parts = map (λ part. 0) parts

  zeros-more : (xs ys : List T) → zeros (xs ++ ys) ≡ zeros xs ++ zeros ys
  zeros-more [] ys = refl
  zeros-more (x ∷ xs) ys = ap (λ (ranks : List ℕ). 0 ∷ ranks) (zeros-more xs ys)

  pub with_parts_none : (t : TableOf T) → with_parts t [] ≡ t
  with_parts_none t =
      ap (λ (parts : List T). record { parts = parts; ranks = t.ranks ++ [] }) (append-nil t.parts)
      ∙ ap (λ (ranks : List ℕ). record { parts = t.parts; ranks = ranks }) (append-nil t.ranks)

  pub with_parts_more : (t : TableOf T) (xs ys : List T) → with_parts (with_parts t xs) ys ≡ with_parts t (xs ++ ys)
  with_parts_more t xs ys =
      ap (λ (parts : List T). record { parts = parts; ranks = (t.ranks ++ zeros xs) ++ zeros ys }) (append_assoc t.parts xs ys)
      ∙ ap (λ (ranks : List ℕ). record { parts = t.parts ++ (xs ++ ys); ranks = ranks })
      (append_assoc t.ranks (zeros xs) (zeros ys) ∙ ap (λ (ranks : List ℕ). t.ranks ++ ranks) (sym (zeros-more xs ys)))

  first-below : (before n : ℕ) (parts rest : List T) → number_of parts before ≡ Some n → n < before + length (parts ++ rest)
  first-below before n [] rest is = absurd (none-some n is)
  first-below before n (part ∷ parts) rest is = omega (arith, same_Some before n is)

  -- the numbers of what is built are below the count of all then
  pub numbers_below : (build : Representation → List T) (before : ℕ) (reps : List Representation) (place n : ℕ)
      → number_at (numbers_of build before reps) place ≡ Some n → n < before + length (flat_map build reps)
  numbers_below build before [] place n is = absurd (none-some n is)
  numbers_below build before (rep ∷ reps) zero n is = first-below before n (build rep) (flat_map build reps) is
  numbers_below build before (rep ∷ reps) (suc place) n is =
      omega (arith, numbers_below build (before + length (build rep)) reps place n is, length-append (build rep) (flat_map build reps))

-- as many of one as of the other
module _ {A X Y : Type 0} (f : A → List X) (g : A → List Y) (same : (a : A) → length (f a) ≡ length (g a)) where
  pub same_length : (each : List A) → length (flat_map f each) ≡ length (flat_map g each)
  same_length [] = refl
  same_length (a ∷ each) = omega (arith, length-append (f a) (flat_map f each), length-append (g a) (flat_map g each), same a, same_length each)

-- the same value for each
pub same_values : {X Y V : Type 0} (v : V) (xs : List X) (ys : List Y) → length xs ≡ length ys → map (λ (x : X). v) xs ≡ map (λ (y : Y). v) ys
same_values v [] [] long = refl
same_values v [] (y ∷ ys) long = absurd (omega (arith, long))
same_values v (x ∷ xs) [] long = absurd (omega (arith, long))
same_values {X} {Y} {V} v (x ∷ xs) (y ∷ ys) long = ap (λ (vs : List V). v ∷ vs) (same_values v xs ys (omega (arith, long)))
