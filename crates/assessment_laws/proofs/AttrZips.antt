-- Two lists, place by place.
use Rattle.std.proofs.Common.{List, [], ◌∷◌, map}
use Rattle.std.specs.Prelude.{All}
use Rattle.std.specs.List.{AllZip}
use Rattle.std.proofs.lemmas.List.Elements.{All-nil, All-cons, All-head, All-tail}

module _ {A B : Type 0} (R : A → B → Type 0) where
  pub zip-each : {C : Type 0} (Q : A → Type 0) (P : C → Type 0) (f : B → C) → ((a : A) (b : B) → Q a → R a b → P (f b)) →
      (xs : List A) (ys : List B) → All Q xs → AllZip R xs ys → All P (map f ys)
  zip-each Q P f so [] [] all zip = All-nil P
  zip-each Q P f so [] (y ∷ ys) all zip = absurd zip
  zip-each Q P f so (x ∷ xs) [] all zip = absurd zip
  zip-each Q P f so (x ∷ xs) (y ∷ ys) all zip =
      All-cons P (f y) (map f ys) (so x y (All-head Q x xs all) zip.0) (zip-each Q P f so xs ys (All-tail Q x xs all) zip.1)

pub all-any : {A : Type 0} (P : A → Type 0) → ((a : A) → P a) → (xs : List A) → All P xs
all-any P h [] = All-nil P
all-any P h (x ∷ xs) = All-cons P x xs (h x) (all-any P h xs)
