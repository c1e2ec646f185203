-- What contracts see of a string of characters.
use Rattle.std.specs.Prelude.{ℕ, List, string_bytes}
use Rattle.simple_values.specs.declared.characters.Characters.TheInside.{Inside}

-- the bytes of a string
abbrev pub bytes_of : Inside → List ℕ
bytes_of s = string_bytes s.inner
