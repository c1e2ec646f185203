-- What the bound says of the count.
use Rattle.std.specs.Prelude.{◌≤◌, ℕ, zero, suc, List, [], ◌∷◌, IfSome}
use Rattle.std.proofs.Common.{le_refl}
use Rattle.xsv_io.specs.Bounds.{bound_of}

pub bound_of-bounds : (fails : List ℕ) (faults : ℕ) → IfSome (bound_of fails faults) (λ n. faults ≤ n)
bound_of-bounds [] zero = le_refl 0
bound_of-bounds [] (suc faults) = tt
bound_of-bounds (call ∷ fails) faults = tt
