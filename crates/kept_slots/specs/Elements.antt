-- What is summed over the elements of a tree.
use Rattle.std.specs.Prelude.{◌≡◌, ◌⊎◌, ℕ, ◌+◌, List, slice_index}
use Rattle.tree_rows.specs.Forest.{Forest, none, text, element}

-- the tree has an element of this number
abbrev pub HasElement : ℕ → Forest → Type 0
HasElement n none = ⊥
HasElement n (text number chars next) = HasElement n next
HasElement n (element number name bindings attributes children next) = (number ≡ n) ⊎ (HasElement n children ⊎ HasElement n next)

-- the sum of the weights of its elements, by their numbers
abbrev pub element_sum : (ℕ → ℕ) → Forest → ℕ
element_sum weight none = 0
element_sum weight (text number chars next) = element_sum weight next
element_sum weight (element number name bindings attributes children next) =
    weight number + (element_sum weight children + element_sum weight next)

-- a number that no element has weighs nothing
abbrev pub WeighElements : List ℕ → Forest → Type 0
WeighElements weights f = (n : ℕ) → (HasElement n f → ⊥) → slice_index weights n ≡ 0
