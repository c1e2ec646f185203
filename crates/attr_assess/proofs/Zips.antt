-- Lists place by place.
use Rattle.std.proofs.Common.{ℕ, ◌+◌, ◌<◌, List, [], ◌∷◌, ◌++◌, length, map, take, get_or, sym, subst}
use Rattle.std.specs.List.{AllZip}
use Rattle.std.proofs.lemmas.List.{take_more}

module _ {A B : Type 0} (R : A → B → Type 0) where
  pub zip-push : (xs : List A) (ys : List B) (x : A) (y : B) → AllZip R xs ys → R x y → AllZip R (xs ++ x ∷ []) (ys ++ y ∷ [])
  zip-push [] [] x y all one = (one, tt)
  zip-push [] (b ∷ ys) x y all one = absurd all
  zip-push (a ∷ xs) [] x y all one = absurd all
  zip-push (a ∷ xs) (b ∷ ys) x y all one = (all.0, zip-push xs ys x y all.1 one)

  pub zip-none : AllZip R [] []
  zip-none = tt

  pub zip-map : {C : Type 0} (f : C → A) (xs : List C) (ys : List B) → AllZip (λ x y. R (f x) y) xs ys → AllZip R (map f xs) ys
  zip-map f [] [] all = tt
  zip-map f [] (b ∷ ys) all = absurd all
  zip-map f (a ∷ xs) [] all = absurd all
  zip-map f (a ∷ xs) (b ∷ ys) all = (all.0, zip-map f xs ys all.1)

  -- one place more
  pub zip-more : (xs : List A) (i : ℕ) (d : A) (ys : List B) (y : B) → i < length xs → AllZip R (take i xs) ys → R (get_or xs i d) y → AllZip R (take (i + 1) xs) (ys ++ y ∷ [])
  zip-more xs i d ys y within all one = subst (λ zs. AllZip R zs (ys ++ y ∷ [])) (sym (take_more xs i d within)) (zip-push (take i xs) ys (get_or xs i d) y all one)
