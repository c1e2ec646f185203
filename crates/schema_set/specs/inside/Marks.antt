-- Marks of numbers.
use Rattle.std.specs.Prelude.{◌≡◌, ℕ, ◌+◌, ◌⊎◌, List, [], ◌∷◌, Bool, true, false, Contains, All, length, slice_index_or, sum_by, if◌then◌else◌}
use Rattle.schema_set.specs.declared.documents.Available.{Available}
use Rattle.schema_set.specs.inside.Following.{with_own, following, Reaches}

abbrev pub marked : List Bool → ℕ → Bool
marked seen y = slice_index_or seen y false

abbrev pub one_if_not : Bool → ℕ
one_if_not true = 0
one_if_not false = 1

-- how many are not marked
abbrev pub unmarked : List Bool → ℕ
unmarked seen = sum_by one_if_not seen

-- those that are marked, where the first has this number
abbrev pub marks : ℕ → List Bool → List ℕ
marks n [] = []
marks n (b ∷ bs) = if b then n ∷ marks (n + 1) bs else marks (n + 1) bs

-- these are marked, and those that were not before are to be done
pub record IsMarking (xs : List ℕ) (old new : List Bool) (old_todo new_todo : List ℕ) : Type 0 where
  pub kept : (y : ℕ) → marked old y ≡ true → marked new y ≡ true
  pub only : (y : ℕ) → marked new y ≡ true → (marked old y ≡ true) ⊎ Contains xs y
  pub done : (y : ℕ) → marked new y ≡ true → (marked old y ≡ true) ⊎ Contains new_todo y
  pub later : (y : ℕ) → Contains old_todo y → Contains new_todo y
  pub waits : (y : ℕ) → Contains new_todo y → Contains old_todo y ⊎ (marked new y ≡ true)
  pub count : unmarked new + length new_todo ≡ unmarked old + length old_todo

-- the document of this place leads to what is marked, and what a marked one leads to is marked or it is to be done
pub record IsReach (available : List Available) (start : ℕ) (seen : List Bool) (todo : List ℕ) : Type 0 where
  pub reached : (y : ℕ) → marked seen y ≡ true → Reaches available start y
  pub waiting : (y : ℕ) → Contains todo y → marked seen y ≡ true
  pub begun : marked seen (with_own available (start + 1)) ≡ true
  pub closed : (y : ℕ) → marked seen y ≡ true → Contains todo y ⊎ All (λ z. marked seen z ≡ true) (following available y)
