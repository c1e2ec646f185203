-- By two right numberings of fixed values the same declarations keep the fixed values of the same.
use Rattle.std.proofs.Common.{◌≡◌, ℕ, List, Option, None, Some, refl, sym, subst, ◌∙◌}
use Rattle.std.specs.Prelude.{IfSome}
use Rattle.xs_components.specs.Tables.{Tables}
use Rattle.derive_models.specs.Fixed.{number_of, AreFixedNumbers}

-- a number that an element has, another has too
abbrev pub Keeps : List (Option ℕ) → ℕ → ℕ → Type 0
Keeps numbers element base = IfSome (number_of numbers base) (λ value. number_of numbers element ≡ Some value)

module _ (t : Tables) (f g : List (Option ℕ)) (one : AreFixedNumbers t f) (other : AreFixedNumbers t g) where
  number-kept : (element base n : ℕ) → Keeps f element base → number_of g base ≡ Some n → number_of g element ≡ Some n
  number-kept element base n keeps has =
      let of_base = other.there base n has in
      let first = one.each base of_base.0 of_base.1 in
      let kept : number_of f element ≡ Some first.0 = subst (λ (r : Option ℕ). IfSome r (λ value. number_of f element ≡ Some value)) first.1 keeps in
      let of_element = one.there element first.0 kept in
      let same = (one.shared base element of_base.0 of_element.0 of_base.1 of_element.1).0 (first.1 ∙ sym kept) in
      sym ((other.shared base element of_base.0 of_element.0 of_base.1 of_element.1).1 same) ∙ has

  pub kept-too : (element base : ℕ) → Keeps f element base → Keeps g element base
  kept-too element base keeps = by-number (number_of g base) refl
    where
      by-number : (r : Option ℕ) → number_of g base ≡ r → IfSome r (λ value. number_of g element ≡ Some value)
      by-number None e = tt
      by-number (Some n) e = number-kept element base n keeps e
