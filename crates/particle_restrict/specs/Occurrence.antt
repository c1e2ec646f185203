-- Occurrence Range OK (Structures 3.9.6).
use Rattle.std.specs.Prelude.{ℕ, ◌≤◌, ◌*◌, ⊤, Option, None, Some}
use Rattle.particle_models.specs.declared.part.Bounds.{Bounds}

-- the greatest is no greater than the base's, of which there may be none
abbrev pub NotMore : Option ℕ → Option ℕ → Type 0
NotMore most None = ⊤
NotMore None (Some base) = ⊥
NotMore (Some most) (Some base) = most ≤ base

-- A range is a valid restriction of the base's: its least is at least the base's, and its greatest at most the base's.
pub record IsRangeOk (least : ℕ) (most : Option ℕ) (base : Bounds) : Type 0 where
  pub not_less : base.least ≤ least
  pub not_more : NotMore most base.most

-- the greatest taken as often as there are members
abbrev pub most_by : Option ℕ → ℕ → Option ℕ
most_by None members = None
most_by (Some most) members = Some (most * members)

-- any number
abbrev pub any_number : Bounds
any_number = record { least = 0; most = None }
