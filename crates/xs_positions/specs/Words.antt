-- The words of expressions (Structures 3.8.4 and 3.9.4; Datatypes, appendix F).
use Rattle.std.specs.Prelude.{◌≡◌, ℕ, zero, suc, ◌≤◌, List, [], ◌∷◌, ◌++◌, Option, Some, None, ◌⊎◌}
use Rattle.xs_positions.specs.Expressions.{Expression, one, empty, chain, nothing, either, repeat}

-- so many rounds lie within the bounds
abbrev pub Allows : ℕ → Option ℕ → ℕ → Type 0
Allows least None rounds = least ≤ rounds
Allows least (Some most) rounds = (least ≤ rounds) × (rounds ≤ most)

-- so many words one after the other, the first of them of this round
abbrev pub Rounds : {A : Type 0} → (ℕ → List A → Type 0) → ℕ → ℕ → List A → Type 0
Rounds Word zero round word = word ≡ []
Rounds Word (suc more) round word =
    (front back : List _) × (word ≡ front ++ back) × Word round front × Rounds Word more (suc round) back

-- The word is one of the expression, where a symbol takes some letters: one letter that the symbol takes; a word of each
-- part of a sequence, in order; a word of some part of a choice; so many words of a part as the bounds allow.
abbrev pub IsWordOf : {S A : Type 0} → (S → A → Type 0) → Expression S → List A → Type 0
IsWordOf Takes (one symbol) word = (letter : _) × (word ≡ letter ∷ []) × Takes symbol letter
IsWordOf Takes empty word = word ≡ []
IsWordOf Takes (chain first rest) word = (front back : List _) × (word ≡ front ++ back) × IsWordOf Takes first front × IsWordOf Takes rest back
IsWordOf Takes nothing word = ⊥
IsWordOf Takes (either first rest) word = IsWordOf Takes first word ⊎ IsWordOf Takes rest word
IsWordOf Takes (repeat part least most) word =
    (rounds : ℕ) × Allows least most rounds × Rounds (λ round front. IsWordOf Takes part front) rounds 0 word
