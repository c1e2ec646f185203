-- How far a count of faults can rise.
use Rattle.std.specs.Prelude.{ℕ, zero, suc, List, [], ◌∷◌, Option, Some, None}

-- none at all, where no call is to fail and none has failed; nothing is said otherwise
abbrev pub bound_of : List ℕ → ℕ → Option ℕ
bound_of [] zero = Some 0
bound_of [] (suc faults) = None
bound_of (call ∷ fails) faults = None
