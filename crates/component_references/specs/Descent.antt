-- Definitions along references. A definition is given by one step, which asks for what is referred to; where every reference
-- goes lower, the step defines one value of each, whatever the number of turns that it is given.
use Rattle.std.specs.Prelude.{◌≡◌, ℕ, ◌<◌, zero, suc}

module _ {X A : Type 0} (height : X → ℕ) (blank : A) (step : (X → A) → X → A) where
  -- the value after so many turns
  abbrev pub after_turns : ℕ → X → A
  after_turns zero x = blank
  after_turns (suc n) x = step (after_turns n) x

  -- the value of x, by as many turns as it is high, and one
  abbrev pub along : X → A
  along x = after_turns (suc (height x)) x

  -- the step at x asks for lower ones alone
  abbrev pub AsksLower : (X → Type 0) → Type 0
  AsksLower Is = (x : X) (f g : X → A) → Is x → ((y : X) → Is y → height y < height x → f y ≡ g y) → step f x ≡ step g x
