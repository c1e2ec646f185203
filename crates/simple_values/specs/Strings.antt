-- The strings that values are made of.
use Rattle.std.specs.Prelude.{ℕ, ◌<◌, ◌^◌, List, length}

-- a length that 32 bits hold
abbrev pub IsShort : List ℕ → Type 0
IsShort s = length s < 2 ^ 32
