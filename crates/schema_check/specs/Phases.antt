-- The phases of compiling. What is said of a phase is which fault is its first, or that it has none.
use Rattle.std.specs.Prelude.{◌⊎◌, List, [], ◌∷◌, Option, None, Some}
use Rattle.xs_codes.specs.declared.fault.Fault.{Fault}

-- the first fault of the first phase that has one
abbrev pub IsFirstOfPhases : List (Option Fault → Type 0) → Option Fault → Type 0
IsFirstOfPhases [] None = Unit {0}
IsFirstOfPhases [] (Some fault) = ⊥
IsFirstOfPhases (phase ∷ later) None = phase None × IsFirstOfPhases later None
IsFirstOfPhases (phase ∷ later) (Some fault) = phase (Some fault) ⊎ (phase None × IsFirstOfPhases later (Some fault))
