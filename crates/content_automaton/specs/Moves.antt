-- Sets of positions, and what comes after them.
use Rattle.std.specs.Prelude.{◌≡◌, ◌≢◌, ℕ, ◌<◌, ◌↔◌, ◌⊎◌, ◌==◌, Bool, false, IsTrue, List, [], ◌∷◌, ◌++◌, Option, Some, None, slice_index, slice_index_or, length, Contains, if◌then◌else◌}
use Rattle.std.specs.List.{list_any}
use Rattle.xs_positions.specs.Sets.{row}
use Rattle.xs_positions.specs.Positions.{Table}

-- each position of the table is one of them
pub record IsWithin (table : Table) : Type 0 where
  pub first : (p : ℕ) → Contains table.first p → p < length table.symbols
  pub follow : (p q : ℕ) → p < length table.symbols → Contains (row table.follow p) q → q < length table.symbols

-- the number of the term of a position
abbrev pub symbol_at : Table → ℕ → ℕ
symbol_at table p = slice_index table.symbols p

-- the term of the position accepts the symbol, by the list of the symbols that each term accepts
abbrev pub takes : Table → List (List ℕ) → ℕ → ℕ → Bool
takes table accepted p n = list_any (λ m. m == n) (slice_index_or accepted (symbol_at table p) [])

-- the position may come next after those of a set, or first at the start
abbrev pub Comes : Table → Bool → List ℕ → ℕ → Type 0
Comes table starts set q = (IsTrue starts × Contains table.first q) ⊎ ((p : ℕ) × Contains set p × Contains (row table.follow p) q)

-- A prefix with these names, the last one first, may end in this position.
abbrev pub Ends : Table → (ℕ → ℕ → Bool) → List ℕ → ℕ → Type 0
Ends table takes [] q = ⊥
Ends table takes (n ∷ []) q = Contains table.first q × IsTrue (takes q n)
Ends table takes (n ∷ m ∷ before) q = ((p : ℕ) × Ends table takes (m ∷ before) p × Contains (row table.follow p) q) × IsTrue (takes q n)

-- all positions of the set are of one term
abbrev pub IsOfOneTerm : Table → List ℕ → Type 0
IsOfOneTerm table set = (i j : ℕ) → Contains set i → Contains set j → symbol_at table i ≡ symbol_at table j

-- the set has positions of these two terms, which differ
abbrev pub HasTerms : Table → List ℕ → ℕ → ℕ → Type 0
HasTerms table set x y = (i j : ℕ) × Contains set i × Contains set j × (symbol_at table i ≡ x) × (symbol_at table j ≡ y) × (x ≢ y)

-- the term of the first position of a set
abbrev pub term_in : Table → List ℕ → Option ℕ
term_in table [] = None
term_in table (p ∷ set) = Some (symbol_at table p)

-- the position was put at the end of the sets of these symbols, each of them once
pub record ArePut (old new : List (List ℕ)) (symbols : List ℕ) (p : ℕ) : Type 0 where
  pub count : length new ≡ length old
  pub each : (n : ℕ) → n < length old → slice_index_or new n [] ≡ slice_index_or old n [] ++ (if list_any (λ m. m == n) symbols then p ∷ [] else [])

-- the flag of a number is set
abbrev pub Has : List Bool → ℕ → Type 0
Has flags p = IsTrue (slice_index_or flags p false)

-- the numbers of the list are those whose flag is set
abbrev pub AreListed : List Bool → List ℕ → Type 0
AreListed flags list = (p : ℕ) → Has flags p ↔ Contains list p
