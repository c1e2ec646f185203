-- The places of scopes, and the scopes there.
use Rattle.std.proofs.Common.{◌≡◌, ℕ, suc, ◌+◌, ◌<◌, ◌==◌, ◌&&◌, Bool, true, false, List, [], ◌∷◌, ◌++◌, Option, Some, None, length, get_or, if◌then◌else◌, refl, sym, ap, subst, ◌∙◌, arith, length-append}
use Rattle.std.specs.Prelude.{slice_get, slice_index_or}
use Rattle.std.proofs.lemmas.List.{append-nil, append_assoc, get_or_append_left}
use Rattle.std.proofs.Math.Seq.{get_or-append_seam}
use Rattle.std.proofs.lemmas.Option.{get_or_from_slice_get, slice_get_within}
use Rattle.xs_names.specs.Names.{NameTable}
use Rattle.xs_names.specs.Scope.{first_scope}
use Rattle.schema_shape.specs.declared.forms.Shape.{Shape}
use Rattle.set_representations.specs.Scopes.{opens, is_opener, bound, scope_of, openings, scope_place, scopes_in}
use Rattle.set_representations.specs.inside.Building.{scope_at}

-- one element more that opens a scope or not, and is looked for or not
within-step : (o e : Bool) (first many place : ℕ) → 0 < first → place < first + many → (if o && e then first + many else place) < first + (if o then suc many else many)
within-step true true first many place h p = omega arith
within-step true false first many place h p = omega arith
within-step false e first many place h p = p

pub scope_place-within : (first : ℕ) (before : List Shape) (item : ℕ) → 0 < first → scope_place first before item < first + openings before
scope_place-within first [] item h = omega arith
scope_place-within first (s ∷ before) item h =
    within-step (opens s) (s.item == item) first (openings before) (scope_place first before item) h (scope_place-within first before item h)

module _ {A : Type 0} where
  length-step : (o : Bool) (xs : List A) (y : A) (n : ℕ) → length xs ≡ n → length (xs ++ (if o then y ∷ [] else [])) ≡ (if o then suc n else n)
  length-step true xs y n l = let z = length-append xs (y ∷ []) in omega arith
  length-step false xs y n l = ap length (append-nil xs) ∙ l

  read-step : (o e : Bool) (xs : List A) (y d : A) (n p : ℕ) (r : A) → length xs ≡ n → p < n → slice_index_or xs p d ≡ r
      → slice_index_or (xs ++ (if o then y ∷ [] else [])) (if o && e then n else p) d ≡ (if o && e then y else r)
  read-step true true xs y d n p r l b is = ap (λ k. get_or (xs ++ y ∷ []) k d) (sym l) ∙ get_or-append_seam xs y [] d
  read-step true false xs y d n p r l b is = let h : p < length xs = omega arith in get_or_append_left xs (y ∷ []) d p h ∙ is
  read-step false e xs y d n p r l b is = ap (λ (ys : List A). get_or ys p d) (append-nil xs) ∙ is

module _ (t : NameTable) where
  pub length-scopes_in : (before : List Shape) → length (scopes_in t before) ≡ openings before
  length-scopes_in [] = refl
  length-scopes_in (s ∷ before) = length-step (opens s) (scopes_in t before) (bound t s.bindings (scope_of t before s.above)) (openings before) (length-scopes_in before)

  -- behind scopes of which the first is outside of all elements, the scopes of a document stand at their places
  pub scope_at-place : (base : List (List (List ℕ × ℕ))) → slice_get base 0 ≡ Some first_scope → (before : List Shape) (item : ℕ)
      → scope_at (base ++ scopes_in t before) (scope_place (length base) before item) ≡ scope_of t before item
  scope_at-place base begins [] item =
      ap (λ (ys : List (List (List ℕ × ℕ))). get_or ys 0 first_scope) (append-nil base) ∙ get_or_from_slice_get base 0 first_scope first_scope begins
  scope_at-place base begins (s ∷ before) item =
      let some = slice_get_within base 0 first_scope begins in
      let one = bound t s.bindings (scope_of t before s.above) in
      let own : List (List (List ℕ × ℕ)) = if opens s then one ∷ [] else [] in
      let long : length (base ++ scopes_in t before) ≡ length base + openings before = length-append base (scopes_in t before) ∙ ap (λ n. length base + n) (length-scopes_in before) in
      ap (λ (ys : List (List (List ℕ × ℕ))). get_or ys (scope_place (length base) (s ∷ before) item) first_scope) (sym (append_assoc base (scopes_in t before) own)) ∙
      read-step (opens s) (s.item == item) (base ++ scopes_in t before) one first_scope (length base + openings before) (scope_place (length base) before item) (scope_of t before item)
      long (scope_place-within (length base) before item some) (scope_at-place base begins before item)
