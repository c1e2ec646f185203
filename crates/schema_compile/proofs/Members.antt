-- The members of substitution groups are determined (Structures 3.3.6).
use Rattle.std.proofs.Common.{◌≡◌, ℕ, Bool, true, false, refl, ◌<◌, List, [], ◌∷◌, length, get_or, map, sym, ap, ◌∙◌, arith}
use Rattle.std.specs.Cmp.{IsTotalOrder}
use Rattle.std.specs.Ordering.{nat_cmp}
use Rattle.std.proofs.lemmas.Cmp.{nat_cmp_total, then_total}
use Rattle.std.proofs.lemmas.List.{same_lists, get_or_default}
use Rattle.std.proofs.lemmas.Option.{unwrap_or-slice_get}
use Rattle.xs_components.specs.Tables.{Tables}
use Rattle.xs_components.specs.Heads.{names_of}
use Rattle.element_declarations.specs.Groups.{by_place, place_of, name_of, is_named, IsGroup, IsEntry, AreGroups}
use Rattle.schema_compile.proofs.Sorted.{never-both, same-list}

module _ (t : Tables) where
  on-total : (f : ℕ → ℕ) → IsTotalOrder (λ x y. nat_cmp (f x) (f y))
  on-total f = record {
    antisymm = λ x y. nat_cmp_total.antisymm (f x) (f y);
    trans = λ x y z. nat_cmp_total.trans (f x) (f y) (f z);
    congr = λ x y z. nat_cmp_total.congr (f x) (f y) (f z);
  }

  place-total : IsTotalOrder (by_place t)
  place-total = then_total (then_total (on-total (λ x. (place_of t x).document)) (on-total (λ x. (place_of t x).item))) nat_cmp_total

  members-same : (head : ℕ) (xs ys : List ℕ) (one : IsGroup t head xs) (other : IsGroup t head ys) → one.members ≡ other.members
  members-same head xs ys one other =
      same-list (by_place t) (never-both (by_place t) place-total) one.members other.members one.ordered other.ordered
      (λ z has. (other.exact z).1 ((one.exact z).0 has)) (λ z has. (one.exact z).1 ((other.exact z).0 has))

  group-same : (head : ℕ) (xs ys : List ℕ) → IsGroup t head xs → IsGroup t head ys → xs ≡ ys
  group-same head xs ys one other =
      one.all_names ∙ (ap (λ (members : List ℕ). name_of t head ∷ map (name_of t) members) (members-same head xs ys one other) ∙ sym other.all_names)

  entry-same : (head : ℕ) (xs ys : List ℕ) → IsEntry t head xs → IsEntry t head ys → xs ≡ ys
  entry-same head xs ys one other = of (is_named t head) refl
    where
      of : (b : Bool) → is_named t head ≡ b → xs ≡ ys
      of true e = group-same head xs ys (one.named e) (other.named e)
      of false e = one.other e ∙ sym (other.other e)

  named : (groups : List (List ℕ)) (head : ℕ) (d : List ℕ) → head < length groups → get_or groups head d ≡ names_of groups head
  named groups head d l = get_or_default groups head d [] l ∙ sym (unwrap_or-slice_get groups head [])

  pub groups-same : (xs ys : List (List ℕ)) → AreGroups t xs → AreGroups t ys → xs ≡ ys
  groups-same xs ys one other =
      let long : length xs ≡ length ys = one.each ∙ sym other.each in
      same_lists xs ys long (λ k d l.
      let m : k < length ys = omega (arith, l, long) in
      named xs k d l ∙ (entry-same k (names_of xs k) (names_of ys k) (one.are k l) (other.are k m) ∙ sym (named ys k d m)))
