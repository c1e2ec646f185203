-- The first fault of phases, from those of each.
use Rattle.std.proofs.Common.{inl, inr, List, [], ◌∷◌, Option, None, Some}
use Rattle.xs_codes.specs.declared.fault.Fault.{Fault}
use Rattle.schema_check.specs.Phases.{IsFirstOfPhases}

-- a phase behind one without a fault
pub after-one : (phase : Option Fault → Type 0) (later : List (Option Fault → Type 0)) (found : Option Fault) → phase None → IsFirstOfPhases later found → IsFirstOfPhases (phase ∷ later) found
after-one phase later None none first = (none, first)
after-one phase later (Some fault) none first = inr (none, first)

-- what each phase finds another finds too
abbrev pub Imply : List (Option Fault → Type 0) → List (Option Fault → Type 0) → Type 0
Imply [] [] = Unit {0}
Imply [] (q ∷ qs) = ⊥
Imply (p ∷ ps) [] = ⊥
Imply (p ∷ ps) (q ∷ qs) = ((found : Option Fault) → p found → q found) × Imply ps qs

pub first-implied : (ps qs : List (Option Fault → Type 0)) (found : Option Fault) → Imply ps qs → IsFirstOfPhases ps found → IsFirstOfPhases qs found
first-implied [] [] found each first = first
first-implied [] (q ∷ qs) found each first = absurd each
first-implied (p ∷ ps) [] found each first = absurd each
first-implied (p ∷ ps) (q ∷ qs) None each first = (each.0 None first.0, first-implied ps qs None each.1 first.1)
first-implied (p ∷ ps) (q ∷ qs) (Some fault) each (inl here) = inl (each.0 (Some fault) here)
first-implied (p ∷ ps) (q ∷ qs) (Some fault) each (inr later) = inr (each.0 None later.0, first-implied ps qs (Some fault) each.1 later.1)
