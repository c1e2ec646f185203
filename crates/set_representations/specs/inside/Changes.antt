-- Changes of parts, each in the place of its number.
use Rattle.std.specs.Prelude.{ℕ, List, [], ◌∷◌, Option, None, Some}
use Rattle.xs_components.specs.Table.{change_at}
use Rattle.representations.specs.declared.parts.Representation.{Representation}

module _ {T V : Type 0} (change : V → T → T) where
  -- a part with the value, where there is one
  abbrev pub changed : Option V → T → T
  changed None part = part
  changed (Some value) part = change value part

  -- the parts, where that of a number has the value
  abbrev pub changed_at : List T → Option ℕ → Option V → List T
  changed_at parts None value = parts
  changed_at parts (Some number) None = parts
  changed_at parts (Some number) (Some value) = change_at parts number (change value)

  -- the parts of these numbers with the values by what is represented
  abbrev pub changes : (Representation → Option V) → List T → List (Option ℕ) → List Representation → List T
  changes value parts numbers [] = parts
  changes value parts [] (rep ∷ reps) = parts
  changes value parts (number ∷ numbers) (rep ∷ reps) = changes value (changed_at parts number (value rep)) numbers reps
