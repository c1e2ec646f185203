-- How much is left to let go of.
use Rattle.std.specs.Prelude.{ℕ, ◌+◌, ◌*◌, Option, None, Some}
use Rattle.std.specs.declared.alloc.Global.{Global}
use Rattle.std.specs.declared.rc.Rc.{Rc}
use Rattle.shared_lists.specs.declared.trees.Node.{Node}
use Rattle.shared_lists.specs.declared.trees.Node.TheVariants.{Empty, Run, Both', Group'}

module _ {T L : Type 0} where
  abbrev pub weight : Node T L → ℕ
  weight Empty = 0
  weight (Run values) = 0
  weight (Both' p first q second) = 2 * weight first + weight second + 1
  weight (Group' p tree label) = 2 * weight tree + 1

  abbrev pub weight_of : Option (Rc (Node T L) Global) → ℕ
  weight_of None = 0
  weight_of (Some node) = weight node.value
