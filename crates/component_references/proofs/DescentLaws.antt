-- Enough turns are as good as any.
use Rattle.std.proofs.Common.{◌≡◌, ℕ, ◌<◌, zero, suc, arith}
use Rattle.component_references.specs.Descent.{after_turns, along, AsksLower}

module _ {X A : Type 0} (height : X → ℕ) (blank : A) (step : (X → A) → X → A) where
  abbrev turns : ℕ → X → A
  turns = after_turns height blank step

  -- enough turns are as good as any other number of turns that is enough
  pub after_turns-enough : (Is : X → Type 0) → AsksLower height blank step Is → (n m : ℕ) (x : X) → Is x → height x < n → height x < m → turns n x ≡ turns m x
  after_turns-enough Is lower zero m x is a b = absurd (omega arith)
  after_turns-enough Is lower (suc n) zero x is a b = absurd (omega arith)
  after_turns-enough Is lower (suc n) (suc m) x is a b =
      lower x (turns n) (turns m) is (λ y isy h. after_turns-enough Is lower n m y isy (omega arith) (omega arith))

  -- the value is that of the step on the values
  pub along-is : (Is : X → Type 0) → AsksLower height blank step Is → (x : X) → Is x → along height blank step x ≡ step (along height blank step) x
  along-is Is lower x is =
      lower x (turns (height x)) (along height blank step) is (λ y isy h. after_turns-enough Is lower (height x) (suc (height y)) y isy h (omega arith))
