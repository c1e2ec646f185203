-- Whether new siblings can be put into a document.
use Rattle.std.specs.Prelude.{◌≡◌, ℕ, ◌+◌, ◌≤◌, true, false}
use Rattle.tree_rows.specs.Forest.{Forest, Document, count, deepest_of}
use Rattle.tree_rows.specs.declared.limits.TheConstants.{MAX_DEPTH}
use Rattle.tree_edits.specs.Edits.{found, too_many_more}
use Rattle.tree_edits.specs.Tests.{is_element, width_of, depth_of}

-- new siblings can be put before the child of this place: none of the tests of an insertion on place, number and depth stands
pub record Fits (d : Document) (parent place : ℕ) (new : Forest) : Type 0 where
  pub element : is_element (found parent 1 d.forest) ≡ true
  pub within : place ≤ width_of (found parent 1 d.forest)
  pub few : too_many_more d (count new) ≡ false
  pub shallow : deepest_of (depth_of (found parent 1 d.forest) + 1) new ≤ MAX_DEPTH
