-- The functions on lists that steps along references use ask for the items of the list alone.
use Rattle.std.proofs.Common.{◌≡◌, Bool, List, [], ◌∷◌, Option, None, Some, map, refl, ap}
use Rattle.std.specs.Prelude.{All, IfSome}
use Rattle.std.specs.List.{list_any, list_all, flat_map}
use Rattle.std.specs.Option.{option_map}
use Rattle.std.proofs.lemmas.List.Elements.{All-head, All-tail}

module _ {X : Type 0} (P : X → Type 0) {A : Type 0} (f g : X → A) (same : (x : X) → P x → f x ≡ g x) where
  pub map-same : (xs : List X) → All P xs → map f xs ≡ map g xs
  map-same [] h = refl
  map-same (x ∷ xs) h = rw (same x (All-head P x xs h), map-same xs (All-tail P x xs h)) refl

  pub option_map-same : (o : Option X) → IfSome o P → option_map f o ≡ option_map g o
  option_map-same None h = refl
  option_map-same (Some x) h = ap Some (same x h)

module _ {X : Type 0} (P : X → Type 0) (f g : X → Bool) (same : (x : X) → P x → f x ≡ g x) where
  pub list_any-same : (xs : List X) → All P xs → list_any f xs ≡ list_any g xs
  list_any-same [] h = refl
  list_any-same (x ∷ xs) h = rw (same x (All-head P x xs h), list_any-same xs (All-tail P x xs h)) refl

  pub list_all-same : (xs : List X) → All P xs → list_all f xs ≡ list_all g xs
  list_all-same [] h = refl
  list_all-same (x ∷ xs) h = rw (same x (All-head P x xs h), list_all-same xs (All-tail P x xs h)) refl

module _ {X : Type 0} (P : X → Type 0) {A : Type 0} (f g : X → List A) (same : (x : X) → P x → f x ≡ g x) where
  pub flat_map-same : (xs : List X) → All P xs → flat_map f xs ≡ flat_map g xs
  flat_map-same [] h = refl
  flat_map-same (x ∷ xs) h = rw (same x (All-head P x xs h), flat_map-same xs (All-tail P x xs h)) refl
