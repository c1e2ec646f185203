-- The digits of a number without the zeros in front.
use Rattle.std.specs.Prelude.{ℕ, ◌==◌, if◌then◌else◌, List, [], ◌∷◌}

abbrev pub skip_zeros : List ℕ → List ℕ
skip_zeros [] = []
skip_zeros (d ∷ ds) = if d == 48 then skip_zeros ds else d ∷ ds
