-- The words of an expression, as lists of positions.
use Rattle.std.specs.Prelude.{◌≡◌, ℕ, ◌+◌, ◌-◌, ◌*◌, min, List, [], ◌∷◌, ◌++◌, ◌⊎◌}
use Rattle.xs_positions.specs.Words.{Allows, Rounds, IsWordOf}
use Rattle.xs_positions.specs.Tree.{Tree, one, empty, chain, nothing, either, repeat, copies, size}
pub use Rattle.xs_positions.specs.Words.{Allows, Rounds}

-- where copy j of a part lies, and the last copy for each round past it
abbrev pub place : ℕ → ℕ → ℕ → ℕ → ℕ
place base copies size round = base + min round (copies - 1) * size

-- The words of an expression as an occurrence, a sequence and a choice have them (Structures 3.8.4 and 3.9.4, Datatypes F),
-- with each symbol's copy in its place: the word is one of the expression whose positions begin at the base.
-- The positions of the parts lie one after the other, in order. In a repeat, the word of round j is marked with copy j
-- of the part, or with the last copy where there are fewer.
abbrev pub IsWord : Tree → ℕ → List ℕ → Type 0
IsWord (one symbol) base word = word ≡ base ∷ []
IsWord empty base word = word ≡ []
IsWord (chain first rest) base word =
    (front back : List ℕ) × (word ≡ front ++ back) × IsWord first base front × IsWord rest (base + size first) back
IsWord nothing base word = ⊥
IsWord (either first rest) base word = IsWord first base word ⊎ IsWord rest (base + size first) word
IsWord (repeat part least most) base word =
    (rounds : ℕ) × Allows least most rounds ×
    Rounds (λ round front. IsWord part (place base (copies least most) (size part) round) front) rounds 0 word

-- some word begins with the position
abbrev pub Begins : (List ℕ → Type 0) → ℕ → Type 0
Begins Word p = (rest : List ℕ) × Word (p ∷ rest)

-- some word ends with the position
abbrev pub Ends : (List ℕ → Type 0) → ℕ → Type 0
Ends Word p = (front : List ℕ) × Word (front ++ p ∷ [])

-- in some word the second position comes right after the first
abbrev pub Follows : (List ℕ → Type 0) → ℕ → ℕ → Type 0
Follows Word p q = (front rest : List ℕ) × Word (front ++ p ∷ q ∷ rest)

-- some word goes through the position
abbrev pub Passes : (List ℕ → Type 0) → ℕ → Type 0
Passes Word p = (front rest : List ℕ) × Word (front ++ p ∷ rest)

-- there is a word
abbrev pub HasWord : (List ℕ → Type 0) → Type 0
HasWord Word = (word : List ℕ) × Word word

-- where two words go through one position, the front of the one and the rest of the other make a word
abbrev pub Exchanges : (List ℕ → Type 0) → Type 0
Exchanges Word =
    (front rest other more : List ℕ) (p : ℕ) → Word (front ++ p ∷ rest) → Word (other ++ p ∷ more) → Word (front ++ p ∷ more)

-- the text is a word of the expression over its symbols
abbrev pub Spells : Tree → List ℕ → Type 0
Spells tree text = IsWordOf (λ symbol letter. letter ≡ symbol) tree text
