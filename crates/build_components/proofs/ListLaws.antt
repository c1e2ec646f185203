-- What is true of each part of a table, by what is built of each representation.
use Rattle.std.proofs.Common.{◌≡◌, ℕ, List, [], ◌∷◌, Option, None, Some, map, refl, subst}
use Rattle.std.specs.Prelude.{All, slice_get}
use Rattle.std.specs.List.{flat_map}
use Rattle.std.specs.Option.{option_to_list}
use Rattle.std.proofs.lemmas.List.Elements.{All-nil, All-cons, All-append}
use Rattle.std.proofs.lemmas.Option.{get_or_from_slice_get, slice_get_within}

module _ {X : Type 0} (P : X → Type 0) where
  pub all-flat_map : {A : Type 0} (f : A → List X) → ((a : A) → All P (f a)) → (each : List A) → All P (flat_map f each)
  all-flat_map f one [] = All-nil P
  all-flat_map f one (a ∷ each) = All-append P (f a) (flat_map f each) (one a) (all-flat_map f one each)

  pub all-map : {A : Type 0} (f : A → X) → ((a : A) → P (f a)) → (each : List A) → All P (map f each)
  all-map f one [] = All-nil P
  all-map f one (a ∷ each) = All-cons P (f a) (map f each) (one a) (all-map f one each)

  pub all-option : (found : Option X) → ((x : X) → found ≡ Some x → P x) → All P (option_to_list found)
  all-option None one = All-nil P
  all-option (Some x) one = All-cons P x [] (one x refl) (All-nil P)

  pub all-one : (x : X) → P x → All P (x ∷ [])
  all-one x p = All-cons P x [] p (All-nil P)

  pub all-at : (xs : List X) → All P xs → (n : ℕ) (x : X) → slice_get xs n ≡ Some x → P x
  all-at xs all n x is = subst P (get_or_from_slice_get xs n x x is) (all n x (slice_get_within xs n x is))
