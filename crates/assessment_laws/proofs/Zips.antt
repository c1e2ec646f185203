-- Two lists, place by place.
use Rattle.std.proofs.Common.{◌≡◌, List, [], ◌∷◌, refl}
use Rattle.std.specs.List.{AllZip}

module _ {A B : Type 0} (R : A → B → Type 0) where
  pub zip-same : ((a : A) (b c : B) → R a b → R a c → b ≡ c) → (xs : List A) (ys zs : List B) → AllZip R xs ys → AllZip R xs zs → ys ≡ zs
  zip-same one [] [] [] a c = refl
  zip-same one [] [] (z ∷ zs) a c = absurd c
  zip-same one [] (y ∷ ys) zs a c = absurd a
  zip-same one (x ∷ xs) [] zs a c = absurd a
  zip-same one (x ∷ xs) (y ∷ ys) [] a c = absurd c
  zip-same one (x ∷ xs) (y ∷ ys) (z ∷ zs) a c = λ i. one x y z a.0 c.0 i ∷ zip-same one xs ys zs a.1 c.1 i
