-- Redefining components with one original before a place.
use Rattle.std.specs.Prelude.{◌≡◌, ℕ, ◌<◌, true, List, Option, Some, slice_get}
use Rattle.xs_codes.specs.declared.fault.Fault.{Fault}
use Rattle.representations.specs.declared.parts.Representation.{Representation}
use Rattle.redefine_names.specs.Shared.{is_shared, shared_fault}

abbrev pub SharedBelow : List Representation → List (Option ℕ) → ℕ → Fault → Type 0
SharedBelow reps originals count fault =
    (place : ℕ) × (rep : Representation) × (place < count) × (slice_get reps place ≡ Some rep) × (is_shared originals place ≡ true) × (fault ≡ shared_fault rep.at)
