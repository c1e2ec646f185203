-- Parts of one kind by number.
use Rattle.std.specs.Prelude.{◌≡◌, ℕ, zero, suc, ◌<◌, ◌^◌, List, [], ◌∷◌, ◌++◌, slice_set}

-- the parts in the order of adding, and the rank of each
pub record TableOf (T : Type 0) : Type 0 where
  pub parts : List T
  pub ranks : List ℕ

module _ {T : Type 0} where
  abbrev pub no_parts : TableOf T
  no_parts = record { parts = []; ranks = [] }

  -- the table with a part more, of rank 0
  abbrev pub with_part : TableOf T → T → TableOf T
  with_part t part = record { parts = t.parts ++ part ∷ []; ranks = t.ranks ++ 0 ∷ [] }

  -- the table with another rank of a number
  abbrev pub with_rank : TableOf T → ℕ → ℕ → TableOf T
  with_rank t number rank = record t { ranks = slice_set t.ranks number rank }

  -- the table with another part of a number
  abbrev pub with_other : TableOf T → ℕ → T → TableOf T
  with_other t number part = record t { parts = slice_set t.parts number part }

module _ {T : Type 0} where
  -- the list with the item of an index changed
  abbrev pub change_at : List T → ℕ → (T → T) → List T
  change_at [] n f = []
  change_at (x ∷ xs) zero f = f x ∷ xs
  change_at (x ∷ xs) (suc n) f = x ∷ change_at xs n f

  -- the table with the part of a number changed
  abbrev pub with_change : TableOf T → ℕ → (T → T) → TableOf T
  with_change t number f = record t { parts = change_at t.parts number f }

-- what is true of the lengths of every table
pub record IsKept (parts ranks : ℕ) : Type 0 where
  pub alike : ranks ≡ parts
  pub few : parts < 2 ^ 32
