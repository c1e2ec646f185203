-- The lines of a byte string.
use Rattle.std.specs.Prelude.{◌≡◌, ℕ, List, [], ◌∷◌, ◌++◌, false, ◌==◌, if◌then◌else◌}
use Rattle.std.specs.List.{list_any}

-- whole lines without their line feeds, and the bytes of a line that was begun
pub record Cut : Type 0 where
  pub whole : List (List ℕ)
  pub begun : List ℕ

-- one more byte at the front of the first line
abbrev pub longer : ℕ → List (List ℕ) → List ℕ → Cut
longer b [] begun = record { whole = []; begun = b ∷ begun }
longer b (line ∷ lines) begun = record { whole = (b ∷ line) ∷ lines; begun = begun }

-- every line ends with a line feed, 10
abbrev pub cut : List ℕ → Cut
cut [] = record { whole = []; begun = [] }
cut (b ∷ bytes) = let more = cut bytes in
    if b == 10 then record { whole = [] ∷ more.whole; begun = more.begun } else longer b more.whole more.begun

-- a carriage return, 13, just before the line feed is dropped
abbrev pub without_return : List ℕ → List ℕ
without_return [] = []
without_return (b ∷ []) = if b == 13 then [] else b ∷ []
without_return (b ∷ c ∷ bytes) = b ∷ without_return (c ∷ bytes)

-- the lines, each with its line feed, and then the begun line
abbrev pub joined : List (List ℕ) → List ℕ → List ℕ
joined [] begun = begun
joined (line ∷ lines) begun = line ++ (10 ∷ joined lines begun)

-- no line has a line feed
abbrev pub HaveNoFeed : List (List ℕ) → Type 0
HaveNoFeed [] = Unit {0}
HaveNoFeed (line ∷ lines) = (list_any (λ b. b == 10) line ≡ false) × HaveNoFeed lines
