-- Visits of parts along references.
use Rattle.std.specs.Prelude.{◌≡◌, ℕ, zero, suc, ◌+◌, ◌*◌, ◌<◌, ◌≤◌, max, ◌⊎◌, List, [], ◌∷◌, Bool, true, false, Contains, All, length, slice_index_or, sum_by}
use Rattle.component_references.specs.NumberedCircles.{refs_of, Leads}
use Rattle.component_references.specs.inside.Orders.{AreBehind}
use Rattle.component_references.specs.declared.visiting.State.{State}
use Rattle.component_references.specs.declared.visiting.State.TheVariants.{New, Open, Done}
use Rattle.component_references.specs.declared.visiting.Visit.{Visit}

abbrev pub waiting : ℕ → Visit
waiting y = record { part = y; entered = false }

abbrev pub state_of : List State → ℕ → State
state_of states x = slice_index_or states x New

-- the part is in the order, or waits at this place or later
abbrev pub Held : List ℕ → List Visit → ℕ → ℕ → Type 0
Held order todo j z = Contains order z ⊎ ((k : ℕ) × (j ≤ k) × (k < length todo) × ((slice_index_or todo k (waiting 0)).part ≡ z))

pub record IsVisit (refs : List (List ℕ)) (states : List State) (order : List ℕ) (todo : List Visit) : Type 0 where
  pub len : length states ≡ length refs
  pub there : All (λ v. v.part < length refs) todo
  pub order_there : All (λ x. x < length refs) order
  pub behind : AreBehind refs order
  pub done : (x : ℕ) → state_of states x ≡ Done → Contains order x
  pub owed : (j : ℕ) (d : Visit) → j < length todo → (slice_index_or todo j d).entered ≡ true → All (Held order todo (suc j)) (refs_of refs (slice_index_or todo j d).part)
  pub each : (x : ℕ) → x < length refs → Held order todo 0 x
  pub opened : (x : ℕ) → state_of states x ≡ Open → (k : ℕ) × (k < length todo) × ((slice_index_or todo k (waiting 0)).entered ≡ true) × ((slice_index_or todo k (waiting 0)).part ≡ x)
  pub leads : (j k : ℕ) → j < k → k < length todo → (slice_index_or todo j (waiting 0)).entered ≡ true → Leads refs (slice_index_or todo j (waiting 0)).part (slice_index_or todo k (waiting 0)).part

abbrev pub one_if_new : State → ℕ
one_if_new New = 1
one_if_new Open = 0
one_if_new Done = 0

-- how many parts are new
abbrev pub news : List State → ℕ
news states = sum_by one_if_new states

abbrev pub widest : List (List ℕ) → ℕ
widest [] = 0
widest (r ∷ rs) = max (length r) (widest rs)

-- how much is left to do, at most
abbrev pub left : List (List ℕ) → List State → List Visit → ℕ
left refs states todo = news states * (widest refs + 2) + length todo

-- the visit goes on, with less to do
pub record Steps (refs : List (List ℕ)) (states : List State) (todo : List Visit) (new_states : List State) (new_order : List ℕ) (new_todo : List Visit) : Type 0 where
  pub visit : IsVisit refs new_states new_order new_todo
  pub less : left refs new_states new_todo < left refs states todo

-- the parts below a count wait
pub record ArePlaced (count : ℕ) (todo : List Visit) : Type 0 where
  pub len : length todo ≡ count
  pub there : All (λ v. v.part < count) todo
  pub new : All (λ v. v.entered ≡ false) todo
  pub each : (k : ℕ) → k < count → (slice_index_or todo k (waiting 0)).part ≡ k
