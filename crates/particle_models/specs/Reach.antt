-- The positions in which a prefix of a word may end.
use Rattle.std.specs.Prelude.{ℕ, List, [], ◌∷◌, ◌++◌, ⊤}

module _ {Name : Type 0} (Takes : List Name → ℕ → Name → Type 0) where
  -- the positions take the names in turn, where these names came before
  abbrev pub Reads : List Name → List ℕ → List Name → Type 0
  Reads before [] [] = ⊤
  Reads before [] (n ∷ names) = ⊥
  Reads before (p ∷ word) [] = ⊥
  Reads before (p ∷ word) (n ∷ names) = Takes before p n × Reads (before ++ n ∷ []) word names

  module _ (Word : List ℕ → Type 0) where
    -- a prefix with these names, of a word, may end in this position
    abbrev pub Reach : List Name → ℕ → Type 0
    Reach names p = (front rest : List ℕ) × Word (front ++ p ∷ rest) × Reads [] (front ++ p ∷ []) names
