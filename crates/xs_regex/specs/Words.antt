-- Texts along words of positions.
use Rattle.std.specs.Prelude.{ℕ, Bool, IsTrue, List, [], ◌∷◌, ⊤}

-- the positions of the word take the characters of the text in turn
abbrev pub Reads : (ℕ → ℕ → Bool) → List ℕ → List ℕ → Type 0
Reads takes [] [] = ⊤
Reads takes [] (c ∷ cs) = ⊥
Reads takes (p ∷ word) [] = ⊥
Reads takes (p ∷ word) (c ∷ cs) = IsTrue (takes p c) × Reads takes word cs
