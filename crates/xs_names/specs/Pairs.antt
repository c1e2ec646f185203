-- What contracts see of a pair.
use Rattle.std.specs.Prelude.{ℕ}
use Rattle.xs_names.specs.declared.numbered.Pair.{Pair}

-- the two numbers of a pair
abbrev pub numbers : Pair → ℕ × ℕ
numbers p = (p.space, p.local)
