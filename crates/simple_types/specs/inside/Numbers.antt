-- The type of a number.
use Rattle.std.specs.Prelude.{ℕ, List, slice_get}
use Rattle.simple_types.specs.TypeTree.{TypeTree}
use Rattle.simple_types.specs.SimpleValidity.{IsMade}
use Rattle.simple_types.specs.declared.judged.JudgedType.{JudgedType}
use Rattle.simple_types.specs.Judging.{Holds}

-- the type of a number has these facets, and its literals are known
abbrev pub IsMadeAt : TypeTree → List JudgedType → ℕ → Type 0
IsMadeAt tree table number = Holds (λ judged. IsMade tree judged.of.facets) (slice_get table number)
