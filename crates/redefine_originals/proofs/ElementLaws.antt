-- Elements of documents with the places of their originals, one by one.
use Rattle.std.proofs.Common.{◌≡◌, ℕ, ◌+◌, ◌<◌, ◌++◌, List, [], ◌∷◌, length, map, take, get_or, sym, ap, subst, ◌∙◌}
use Rattle.std.specs.List.{AllZip, flat_map}
use Rattle.std.proofs.lemmas.Grind.{flat_map-append}
use Rattle.std.proofs.lemmas.List.{append-nil, append_assoc, map-append, take_more}

module _ {A B : Type 0} (R : A → B → Type 0) where
  zip-push : (xs : List A) (ys : List B) (x : A) (y : B) → AllZip R xs ys → R x y → AllZip R (xs ++ x ∷ []) (ys ++ y ∷ [])
  zip-push [] [] x y h r = (r, tt)
  zip-push [] (b ∷ ys) x y h r = absurd h
  zip-push (a ∷ xs) [] x y h r = absurd h
  zip-push (a ∷ xs) (b ∷ ys) x y h r = (h.0, zip-push xs ys x y h.1 r)

  -- one element more of a document
  pub one-more : {S : Type 0} (f : S → A) (shown shapes : List S) (same : shown ≡ shapes) (i : ℕ) (s : S) → i < length shown → s ≡ get_or shown i s → (before : List A) (old new : List B) (y : B)
      → AllZip R (before ++ map f (take i shapes)) old → R (f s) y → new ≡ old ++ y ∷ [] → AllZip R (before ++ map f (take (i + 1) shapes)) new
  one-more {S = S} f shown shapes same i s within at before old new y h r put =
      let one : map f (take (i + 1) shapes) ≡ map f (take i shapes) ++ f s ∷ [] =
      ap (λ (l : List S). map f (take (i + 1) l)) (sym same)
      ∙ (ap (map f) (take_more shown i s within)
      ∙ (map-append f (take i shown) (get_or shown i s ∷ [])
      ∙ (ap (λ (x : S). map f (take i shown) ++ f x ∷ []) (sym at)
      ∙ ap (λ (l : List S). map f (take i l) ++ f s ∷ []) same))) in
      subst (λ (l : List B). AllZip R (before ++ map f (take (i + 1) shapes)) l) (sym put)
      (subst (λ (l : List A). AllZip R l (old ++ y ∷ [])) (append_assoc before (map f (take i shapes)) (f s ∷ []) ∙ ap (λ (l : List A). before ++ l) (sym one))
      (zip-push (before ++ map f (take i shapes)) old (f s) y h r))

  -- one document more
  pub document-more : {D : Type 0} (f : D → List A) (ds : List D) (i : ℕ) (d : D) → i < length ds → d ≡ get_or ds i d → (new : List B)
      → AllZip R (flat_map f (take i ds) ++ f d) new → AllZip R (flat_map f (take (i + 1) ds)) new
  document-more f ds i d within at new h =
      let one : flat_map f (take (i + 1) ds) ≡ flat_map f (take i ds) ++ f d =
      ap (flat_map f) (take_more ds i d within)
      ∙ (flat_map-append f (take i ds) (get_or ds i d ∷ [])
      ∙ ap (λ (l : List A). flat_map f (take i ds) ++ l) (append-nil (f (get_or ds i d)) ∙ ap f (sym at))) in
      subst (λ (l : List A). AllZip R l new) (sym one) h
