-- What the calls of this crate say to one another.
use Rattle.std.specs.Prelude.{◌≡◌, ◌≢◌, ℕ, suc, ◌<◌, Bool, true, List, Some, length, slice_get}
use Rattle.child_trees.specs.declared.leaf.Leaf.{Leaf}
use Rattle.child_trees.specs.Lists.{Lists, get, IsLive}
use Rattle.model_lists.specs.Lists.{RowLists}

-- the leaf of a child element with this symbol
abbrev pub leaf_for : {Letter : Type 0} → (ℕ → Letter) → (ℕ → Bool) → ℕ → Leaf Letter
leaf_for letter ambivalent n = record { letter = Some (letter n); element = true; marked = ambivalent n }

-- all lists but this one stay
pub record KeepsOthers {Shape Map : Type 0} (old new : Lists Shape Map) (list : ℕ) : Type 0 where
  pub others : (q : ℕ) → q ≢ list → get new q ≡ get old q
  pub shape : new.shape ≡ old.shape

-- all lists stay that there were
pub record KeepsLive {Shape Map : Type 0} (old new : Lists Shape Map) : Type 0 where
  pub lists : (q : ℕ) → IsLive old q → get new q ≡ get old q
  pub shape : new.shape ≡ old.shape

-- the lists of rows are those of automata whose dead state is their number
abbrev pub AreShaped : List RowLists → Type 0
AreShaped rows = (dead : ℕ) (lists : RowLists) → slice_get rows dead ≡ Some lists → lists.shape ≡ suc dead

-- there may be more of them
abbrev pub GrowTo : List RowLists → List RowLists → Type 0
GrowTo old new = (dead : ℕ) → dead < length old → slice_get new dead ≡ slice_get old dead
