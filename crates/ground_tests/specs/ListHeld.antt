-- Lists that are kept in slots.
use Rattle.std.specs.Prelude.{◌≡◌, ℕ, List, Option, Some, None, slice_index_or}
use Rattle.child_trees.specs.Lists.{Lists, IsLive}

-- each list in a slot is live, and no list is in two slots
pub record AreHeld {Shape Map : Type 0} (v : Lists Shape Map) (slots : List (Option ℕ)) : Type 0 where
  pub live : (i q : ℕ) → slice_index_or slots i None ≡ Some q → IsLive v q
  pub once : (i j q : ℕ) → slice_index_or slots i None ≡ Some q → slice_index_or slots j None ≡ Some q → i ≡ j
