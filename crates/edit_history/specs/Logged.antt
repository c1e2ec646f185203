-- What contracts see of a log of turns.
use Rattle.std.specs.Prelude.{ℕ, ◌≤◌, List, All}
use Rattle.edit_history.specs.Turns.{Turn}

-- the turns in order, and how many more things can be touched without taking memory
pub record Logged : Type 0 where
  pub turns : List Turn
  pub spare : ℕ

-- no turn made a later revision than this
abbrev pub AreNoLater : List Turn → ℕ → Type 0
AreNoLater turns revision = All (λ (t : Turn). t.revision ≤ revision) turns
