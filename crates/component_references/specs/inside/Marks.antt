-- Marks of parts.
use Rattle.std.specs.Prelude.{◌≡◌, ℕ, ◌+◌, ◌⊎◌, List, Bool, true, false, Contains, All, length, slice_index_or, sum_by}
use Rattle.component_references.specs.NumberedCircles.{refs_of, Leads}

abbrev pub marked : List Bool → ℕ → Bool
marked seen y = slice_index_or seen y false

abbrev pub one_if_not : Bool → ℕ
one_if_not true = 0
one_if_not false = 1

-- how many parts are not marked
abbrev pub unmarked : List Bool → ℕ
unmarked seen = sum_by one_if_not seen

-- these parts are marked, and those that were not before are to be done
pub record IsMarking (xs : List ℕ) (old new : List Bool) (old_todo new_todo : List ℕ) : Type 0 where
  pub kept : (y : ℕ) → marked old y ≡ true → marked new y ≡ true
  pub only : (y : ℕ) → marked new y ≡ true → (marked old y ≡ true) ⊎ Contains xs y
  pub done : (y : ℕ) → marked new y ≡ true → (marked old y ≡ true) ⊎ Contains new_todo y
  pub later : (y : ℕ) → Contains old_todo y → Contains new_todo y
  pub waits : (y : ℕ) → Contains new_todo y → Contains old_todo y ⊎ (marked new y ≡ true)
  pub count : unmarked new + length new_todo ≡ unmarked old + length old_todo

-- what is marked can be reached from x, and what a marked part refers to is marked or the part is to be done
pub record IsReach (refs : List (List ℕ)) (x : ℕ) (seen : List Bool) (todo : List ℕ) : Type 0 where
  pub reached : (y : ℕ) → marked seen y ≡ true → Leads refs x y
  pub waiting : (y : ℕ) → Contains todo y → marked seen y ≡ true
  pub begun : All (λ y. marked seen y ≡ true) (refs_of refs x)
  pub closed : (y : ℕ) → marked seen y ≡ true → Contains todo y ⊎ All (λ z. marked seen z ≡ true) (refs_of refs y)
