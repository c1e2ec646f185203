-- What stands in an element is behind it.
use Rattle.std.specs.Prelude.{◌≡◌, ℕ, ◌<◌, List, Some, All, length, slice_get}
use Rattle.representations.specs.declared.parts.Representation.{Representation}

-- a place behind one, and before another
abbrev pub IsBetween : ℕ → ℕ → ℕ → Type 0
IsBetween first end place = (first < place) × (place < end)

abbrev pub AreBehind : List Representation → Type 0
AreBehind reps = (place : ℕ) (rep : Representation) → slice_get reps place ≡ Some rep → All (IsBetween place (length reps)) rep.members
