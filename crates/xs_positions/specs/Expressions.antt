-- Expressions over symbols of some type: the particles of a content model (Structures 3.8 and 3.9) and the terms of a
-- pattern (Datatypes, appendix F) are such.
use Rattle.std.specs.Prelude.{◌≡◌, ℕ, ◌+◌, ◌*◌, max, List, [], ◌∷◌, Option, Some, None, slice_index_or, refl}

-- An expression. A sequence is its first part and then the rest of it, and so is a choice.
pub data Expression (S : Type 0) : Type 0 where
  one : (symbol : S) → Expression S
  empty : Expression S
  chain : (first rest : Expression S) → Expression S
  nothing : Expression S
  either : (first rest : Expression S) → Expression S
  repeat : (part : Expression S) (least : ℕ) (most : Option ℕ) → Expression S

-- the sequence of these parts
abbrev pub sequence_of : {S : Type 0} → List (Expression S) → Expression S
sequence_of [] = empty
sequence_of (part ∷ parts) = chain part (sequence_of parts)

-- the choice between these parts
abbrev pub choice_of : {S : Type 0} → List (Expression S) → Expression S
choice_of [] = nothing
choice_of (part ∷ parts) = either part (choice_of parts)

-- the expression of a number, where expressions are numbered
abbrev pub expression_at : {S : Type 0} → List (Expression S) → ℕ → Expression S
expression_at expressions id = slice_index_or expressions id nothing

-- the expression with other symbols
abbrev pub renamed : {S T : Type 0} → (S → T) → Expression S → Expression T
renamed name (one symbol) = one (name symbol)
renamed name empty = empty
renamed name (chain first rest) = chain (renamed name first) (renamed name rest)
renamed name nothing = nothing
renamed name (either first rest) = either (renamed name first) (renamed name rest)
renamed name (repeat part least most) = repeat (renamed name part) least most

-- A part with bounds n to m has m copies, and one with no upper bound the greater of n and 1.
abbrev pub copies : ℕ → Option ℕ → ℕ
copies least None = max least 1
copies least (Some most) = most

-- how many positions an expression has: the copies of its symbols
abbrev pub size : {S : Type 0} → Expression S → ℕ
size (one symbol) = 1
size empty = 0
size (chain first rest) = size first + size rest
size nothing = 0
size (either first rest) = size first + size rest
size (repeat part least most) = copies least most * size part

-- `(a{0,2}){0,2}` has four copies of its symbol
pub two_of_two : size {S = ℕ} (repeat (repeat (one 97) 0 (Some 2)) 0 (Some 2)) ≡ 4
two_of_two = refl
