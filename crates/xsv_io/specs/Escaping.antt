-- Escapes in what is written. Texts are bytes in UTF-8: a backslash, a line feed, a tab and a carriage return are one byte
-- each, and no other character has these bytes.
use Rattle.std.specs.Prelude.{◌≡◌, ℕ, List, [], ◌∷◌, ◌==◌, ◌&&◌, not, Bool, flat_map, codes, if◌then◌else◌, refl}

-- a backslash and a letter stand for a backslash, a line feed, a tab, and a carriage return
abbrev pub escape : ℕ → List ℕ
escape b =
    if b == 92 then 92 ∷ 92 ∷ []
    else (if b == 10 then 92 ∷ 110 ∷ []
    else (if b == 9 then 92 ∷ 116 ∷ []
    else (if b == 13 then 92 ∷ 114 ∷ [] else b ∷ [])))

-- the bytes that have none
abbrev pub is_plain : ℕ → Bool
is_plain b = (not (b == 92) && not (b == 10)) && (not (b == 9) && not (b == 13))

-- a text with its escapes
abbrev pub escaped : List ℕ → List ℕ
escaped text = flat_map escape text

-- for example
pub example-tab : escaped (codes "a\t\\") ≡ codes "a\\t\\\\"
example-tab = refl
