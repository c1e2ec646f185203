-- Counts that are right at every element are those of the recursion.
use Rattle.std.proofs.Common.{◌≡◌, ℕ, ◌+◌, refl, ap, ◌∙◌, Bool}
use Rattle.identity_constraints.specs.Counting.{weight, is_seen, Links, Numbers, none, node, firsts, StandFor, bearers, bearing, is_visible, seen, IsSettled}

module _ {Y : Type 0} (eq : Y → Y → Bool) (t : Links) (own said : ℕ → Y → ℕ) (all : IsSettled eq t own said) where
  pub seen_at : (y : Y) (number : ℕ) (below : Numbers) → t.children number ≡ firsts below → bearers (seen own said y) (firsts below) ≡ bearing own y below →
      seen own said y number ≡ is_visible own y number below
  seen_at y number below is under = ap (is_seen (own number y)) (all number y ∙ (ap (bearers (seen own said y)) is ∙ under))

  -- the count of the children that have it is that of the recursion
  pub bearing_is : (y : Y) (f : Numbers) → StandFor t f → bearers (seen own said y) (firsts f) ≡ bearing own y f
  bearing_is y none s = refl
  bearing_is y (node number below next) s =
      ap (λ b. weight b + bearers (seen own said y) (firsts next)) (seen_at y number below s.0 (bearing_is y below s.1))
      ∙ ap (λ r. weight (is_visible own y number below) + r) (bearing_is y next s.2)

  -- what is seen at an element by its counts is in its table
  pub seen_is : (y : Y) (number : ℕ) (below : Numbers) → t.children number ≡ firsts below → StandFor t below → seen own said y number ≡ is_visible own y number below
  seen_is y number below is s = seen_at y number below is (bearing_is y below s)
