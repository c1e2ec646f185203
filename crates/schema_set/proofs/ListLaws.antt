-- Lists that grow in a loop.
use Rattle.std.proofs.Common.{◌≡◌, ℕ, ◌+◌, ◌<◌, List, [], ◌∷◌, ◌++◌, length, map, take, get_or, Option, None, Some, refl, sym, ap, ◌∙◌}
use Rattle.std.specs.Prelude.{filter_map}
use Rattle.std.specs.Option.{option_to_list}
use Rattle.std.proofs.lemmas.List.{take_more, map-append}
use Rattle.std.proofs.lemmas.List.Elements.{filter_map-append}

one-more : {X : Type 0} (xs : List X) (i : ℕ) (x : X) → i < length xs → x ≡ get_or xs i x → take (i + 1) xs ≡ take i xs ++ x ∷ []
one-more xs i x h is = take_more xs i x h ∙ ap (λ y. take i xs ++ y ∷ []) (sym is)

pub map-more : {X : Type 0} (f : X → ℕ) (xs : List X) (i : ℕ) (x : X) (old new : List ℕ) (y : ℕ) → i < length xs → x ≡ get_or xs i x → y ≡ f x → new ≡ old ++ y ∷ [] → old ≡ map f (take i xs) → new ≡ map f (take (i + 1) xs)
map-more f xs i x old new y h is e put so_far =
    put ∙ ap (λ l. l ++ y ∷ []) so_far ∙ ap (λ v. map f (take i xs) ++ v ∷ []) e ∙ sym (map-append f (take i xs) (x ∷ [])) ∙ ap (map f) (sym (one-more xs i x h is))

alone : {X : Type 0} (h : X → Option ℕ) (x : X) → filter_map h (x ∷ []) ≡ option_to_list (h x)
alone h x = by (h x) refl
  where
    by : (o : Option ℕ) → h x ≡ o → filter_map h (x ∷ []) ≡ option_to_list (h x)
    by None e = rw e refl
    by (Some y) e = rw e refl

pub filter_map-more : {X : Type 0} (h : X → Option ℕ) (xs : List X) (i : ℕ) (x : X) (old new : List ℕ) (o : Option ℕ) → i < length xs → x ≡ get_or xs i x → o ≡ h x → new ≡ old ++ option_to_list o → old ≡ filter_map h (take i xs)
    → new ≡ filter_map h (take (i + 1) xs)
filter_map-more h xs i x old new o l is e put so_far =
    put ∙ ap (λ k. k ++ option_to_list o) so_far ∙ ap (λ v. filter_map h (take i xs) ++ option_to_list v) e ∙ ap (λ k. filter_map h (take i xs) ++ k) (sym (alone h x))
    ∙ sym (filter_map-append h (take i xs) (x ∷ [])) ∙ ap (filter_map h) (sym (one-more xs i x l is))
