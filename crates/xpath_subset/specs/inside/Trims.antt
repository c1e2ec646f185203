-- Texts without the white space at their ends, as the reader cuts them.
use Rattle.std.specs.Prelude.{◌≡◌, ℕ, ◌==◌, ◌||◌, Bool, if◌then◌else◌, List, [], ◌∷◌, ◌++◌}

abbrev pub is_white_byte : ℕ → Bool
is_white_byte b = (b == 32 || b == 9) || (b == 10 || b == 13)

abbrev pub trim_front : List ℕ → List ℕ
trim_front [] = []
trim_front (b ∷ bs) = if is_white_byte b then trim_front bs else b ∷ bs

-- a byte before a text that is trimmed at its end
abbrev pub put_before : ℕ → List ℕ → List ℕ
put_before b [] = if is_white_byte b then [] else b ∷ []
put_before b (c ∷ cs) = b ∷ c ∷ cs

abbrev pub trim_end : List ℕ → List ℕ
trim_end [] = []
trim_end (b ∷ bs) = put_before b (trim_end bs)

abbrev pub trim_white : List ℕ → List ℕ
trim_white text = trim_end (trim_front text)

-- the text has no white space at its ends
pub record IsTrimmed (text : List ℕ) : Type 0 where
  pub front : trim_front text ≡ text
  pub end : trim_end text ≡ text

-- the text is no white space at either end, whatever stands before or after it
pub record IsTight (text : List ℕ) : Type 0 where
  pub begins : (more : List ℕ) → trim_front (text ++ more) ≡ text ++ more
  pub ends : (front : List ℕ) → trim_end (front ++ text) ≡ front ++ text
