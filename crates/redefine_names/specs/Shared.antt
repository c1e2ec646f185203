-- Redefining components with one original (Structures 3.15.6, 4.2.2).
use Rattle.std.specs.Prelude.{◌≡◌, ℕ, ◌==◌, Bool, true, false, List, Option, None, Some, slice_get, slice_index_or, take}
use Rattle.std.specs.List.{list_any}
use Rattle.xs_codes.specs.declared.code.Code.TheVariants.{SchPropsCorrect2}
use Rattle.xs_codes.specs.declared.fault.Fault.{Fault}
use Rattle.xs_components.specs.declared.common.Place.{Place}
use Rattle.representations.specs.declared.parts.Representation.{Representation}

-- the phase of compiling that looks at names
abbrev pub shared_fault : Place → Fault
shared_fault at = record { phase = 3; document = at.document; item = at.item; code = SchPropsCorrect2 }

abbrev pub is_original : ℕ → Option ℕ → Bool
is_original original None = false
is_original original (Some other) = other == original

abbrev pub is_among : List (Option ℕ) → Option ℕ → Bool
is_among earlier None = false
is_among earlier (Some original) = list_any (is_original original) earlier

-- a component that stands before this place has the original of the one at it
abbrev pub is_shared : List (Option ℕ) → ℕ → Bool
is_shared originals place = is_among (take place originals) (slice_index_or originals place None)

-- sch-props-correct.2 (Structures 3.15.6): two redefining components have one original; the later is named. Its name may be another than
-- that of the earlier, where it is an original itself.
abbrev pub IsShared : List Representation → List (Option ℕ) → Fault → Type 0
IsShared reps originals fault =
    (place : ℕ) × (rep : Representation) × (slice_get reps place ≡ Some rep) × (is_shared originals place ≡ true) × (fault ≡ shared_fault rep.at)
