-- Expressions over numbered symbols, and the symbols of their positions.
use Rattle.std.specs.Prelude.{◌≡◌, ℕ, zero, suc, List, [], ◌∷◌, ◌++◌, None, refl}
use Rattle.xs_positions.specs.Expressions.{Expression, one, empty, chain, nothing, either, repeat, choice_of, copies}
pub use Rattle.xs_positions.specs.Expressions.{one, empty, chain, nothing, either, repeat, sequence_of, choice_of, copies, size}

abbrev pub Tree : Type 0
Tree = Expression ℕ

-- a list, so many times over
abbrev pub times : ℕ → List ℕ → List ℕ
times zero xs = []
times (suc n) xs = xs ++ times n xs

-- the symbol of each position, in order
abbrev pub symbols : Tree → List ℕ
symbols (one symbol) = symbol ∷ []
symbols empty = []
symbols (chain first rest) = symbols first ++ symbols rest
symbols nothing = []
symbols (either first rest) = symbols first ++ symbols rest
symbols (repeat part least most) = times (copies least most) (symbols part)

-- `(a|b){2,}` has two copies of a choice
pub two_or_more : symbols (repeat (choice_of (one 97 ∷ one 98 ∷ [])) 2 None) ≡ 97 ∷ 98 ∷ 97 ∷ 98 ∷ []
two_or_more = refl
