-- What is kept under numbers.
use Rattle.std.specs.Prelude.{◌≡◌, ◌≢◌, ℕ, List, Option, None, Some, slice_index_or, sum_by}

-- what is kept under a number; none past the end
abbrev pub at : {T : Type 0} → List (Option T) → ℕ → Option T
at slots n = slice_index_or slots n None

-- under the number this is kept now, under each other one what was
pub record Writes {T : Type 0} (old new : List (Option T)) (n : ℕ) (x : Option T) : Type 0 where
  pub here : at new n ≡ x
  pub others : (m : ℕ) → m ≢ n → at new m ≡ at old m

-- under each number what was
abbrev pub Keeps : {T : Type 0} → List (Option T) → List (Option T) → Type 0
Keeps old new = (m : ℕ) → at new m ≡ at old m

-- what is kept weighs this, and nothing 0
abbrev pub weigh : {T : Type 0} → (T → ℕ) → Option T → ℕ
weigh weight None = 0
weigh weight (Some x) = weight x

-- the weight of all that is kept
abbrev pub slot_sum : {T : Type 0} → (T → ℕ) → List (Option T) → ℕ
slot_sum weight slots = sum_by (weigh weight) slots
