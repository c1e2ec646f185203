-- The classes of element declarations are determined.
use Rattle.std.proofs.Common.{◌≡◌, inl, inr, ℕ, ◌<◌, ◌≤◌, List, length, get_or, sym, ◌∙◌, arith}
use Rattle.std.proofs.lemmas.Bool.{cases_lt}
use Rattle.std.proofs.lemmas.List.{same_lists}
use Rattle.std.proofs.lemmas.Option.{slice_get-get_or}
use Rattle.xs_components.specs.Tables.{Tables}
use Rattle.element_declarations.specs.Classes.{IsClassOf, AreClassesOf}

module _ (t : Tables) where
  -- another class is no later one
  not-later : (n c d : ℕ) → IsClassOf t n c → IsClassOf t n d → c < d → ⊥
  not-later n c d p q l = elim p.is [
    | inl e ↦ let h = q.up_to in omega (arith, l, e, h)
    | inr s ↦ q.first c l s
  ]

  class-one : (n c d : ℕ) → IsClassOf t n c → IsClassOf t n d → c ≡ d
  class-one n c d p q = elim (cases_lt c d) [
    | inl l ↦ absurd (not-later n c d p q l)
    | inr l ↦ elim (cases_lt d c) [
      | inl m ↦ absurd (not-later n d c q p m)
      | inr m ↦ omega (arith, l, m)
    ]
  ]

  pub classes-same : (xs ys : List ℕ) → AreClassesOf t xs → AreClassesOf t ys → xs ≡ ys
  classes-same xs ys one other =
      let long : length xs ≡ length ys = one.each ∙ sym other.each in
      same_lists xs ys long (λ k d l.
      let m : k < length ys = omega (arith, l, long) in
      class-one k (get_or xs k d) (get_or ys k d) (one.are k (get_or xs k d) (slice_get-get_or xs k d l)) (other.are k (get_or ys k d) (slice_get-get_or ys k d m)))
