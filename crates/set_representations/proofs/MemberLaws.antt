-- The places of members, from the last element to the first.
use Rattle.std.proofs.Common.{◌≡◌, ℕ, suc, ◌+◌, ◌<◌, ◌==◌, Bool, true, false, cond, List, [], ◌∷◌, ◌++◌, Option, Some, None, length, drop, get_or, if◌then◌else◌, refl, sym, ap, subst, ◌∙◌, arith}
use Rattle.std.specs.Prelude.{reverse, filter_map}
use Rattle.std.specs.List.{position_from}
use Rattle.std.proofs.lemmas.List.{reverse-append, reverse-reverse, drop_more}
use Rattle.schema_shape.specs.declared.forms.Shape.{Shape}
use Rattle.set_representations.specs.Members.{place_from, places_of, all_members}

-- places by two look-ups that find the same
pub places-same : (f g : ℕ → Option ℕ) (items : List ℕ) → ((item : ℕ) → f item ≡ g item) → filter_map f items ≡ filter_map g items
places-same f g items same = λ j. filter_map (λ item. same item j) items

-- the list of the members of one element more
pub members-one : (place : ℕ) (shape : Shape) (behind : List Shape) (ms : List (List ℕ)) (own : List ℕ) → own ≡ places_of (place + 1) behind shape.members
    → ms ≡ reverse (all_members (place + 1) behind) → ms ++ own ∷ [] ≡ reverse (all_members place (shape ∷ behind))
members-one place shape behind ms own is all =
    (λ j. all j ++ is j ∷ []) ∙ sym (reverse-append (places_of (place + 1) behind shape.members ∷ []) (all_members (place + 1) behind))

-- the last item of a list
pub same-last : {X : Type 0} (xs ys : List X) (x y : X) → xs ++ x ∷ [] ≡ ys ++ y ∷ [] → (x ≡ y) × (xs ≡ ys)
same-last xs ys x y e =
    let back : x ∷ reverse xs ≡ y ∷ reverse ys = sym (reverse-append xs (x ∷ [])) ∙ ap reverse e ∙ reverse-append ys (y ∷ []) in
    let one : x ≡ y = cc in
    let more : reverse xs ≡ reverse ys = cc in
    (one, sym (reverse-reverse xs) ∙ ap reverse more ∙ reverse-reverse ys)

pub not-last : {X : Type 0} (xs : List X) (x : X) → [] ≡ xs ++ x ∷ [] → ⊥
not-last [] x e = cc
not-last (y ∷ ys) x e = cc

-- one element more of a document, from the last to the first
module _ (first i : ℕ) (shapes : List Shape) (shape : Shape) (b : i < length shapes) (at : shape ≡ get_or shapes i shape) where
  behind-one : drop i shapes ≡ shape ∷ drop (i + 1) shapes
  behind-one = drop_more shapes i shape b ∙ ap (λ s. s ∷ drop (i + 1) shapes) (sym at)

  pub members-more : (f : ℕ → Option ℕ) (ms : List (List ℕ)) (own : List ℕ) → own ≡ filter_map f shape.members
      → ((item : ℕ) → f item ≡ place_from (first + (i + 1)) (drop (i + 1) shapes) item)
      → ms ≡ reverse (all_members (first + (i + 1)) (drop (i + 1) shapes)) → ms ++ own ∷ [] ≡ reverse (all_members (first + i) (drop i shapes))
  members-more f ms own is known all =
      let on : first + (i + 1) ≡ first + i + 1 = omega arith in
      let behind = drop (i + 1) shapes in
      members-one (first + i) shape behind ms own
      (is ∙ places-same f (place_from (first + i + 1) behind) shape.members (λ item. known item ∙ ap (λ n. place_from n behind item) on))
      (all ∙ ap (λ n. reverse (all_members n behind)) on)
      ∙ ap (λ ss. reverse (all_members (first + i) ss)) (sym behind-one)

  pub known-more : (f g : Option ℕ) (item : ℕ) → g ≡ (if shape.item == item then Some (first + i) else f)
      → f ≡ place_from (first + (i + 1)) (drop (i + 1) shapes) item → g ≡ place_from (first + i) (drop i shapes) item
  known-more f g item put known =
      let on : first + (i + 1) ≡ first + i + 1 = omega arith in
      put ∙ ap (λ o. if shape.item == item then Some (first + i) else o) (known ∙ ap (λ n. place_from n (drop (i + 1) shapes) item) on)
      ∙ ap (λ ss. place_from (first + i) ss item) (sym behind-one)
