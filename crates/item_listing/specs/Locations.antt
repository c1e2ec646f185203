-- The locations of a schema section.
use Rattle.std.specs.Prelude.{ℕ, List, [], ◌∷◌, ◌==◌, if◌then◌else◌}

-- one more byte at the front of the first piece
abbrev pub longer_first : ℕ → List (List ℕ) → List (List ℕ)
longer_first b [] = []
longer_first b (piece ∷ pieces) = (b ∷ piece) ∷ pieces

-- the pieces between the tabs, 9, of a text; a text with no tab is one piece
abbrev pub between_tabs : List ℕ → List (List ℕ)
between_tabs [] = [] ∷ []
between_tabs (b ∷ bytes) = if b == 9 then [] ∷ between_tabs bytes else longer_first b (between_tabs bytes)
