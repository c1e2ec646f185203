-- The branches that are left of a walk through a tree, the next of them first.
use Rattle.std.specs.Prelude.{◌≡◌, ℕ, ◌+◌, ◌*◌, List, [], ◌∷◌, ◌++◌, length, Option, MatchOption}
use Rattle.std.specs.Borrow.{Bor}
use Rattle.shared_lists.specs.declared.trees.Node.{Node}
use Rattle.shared_lists.specs.declared.trees.Node.TheVariants.{Empty, Run, Both', Group'}
use Rattle.shared_lists.specs.declared.walks.Ahead.{Ahead}
use Rattle.shared_lists.specs.declared.walks.Ahead.TheVariants.{Branch as InBranch, Run as InRun}
use Rattle.shared_lists.specs.declared.walks.Step.{Step}
use Rattle.shared_lists.specs.declared.walks.Step.TheVariants.{Branch, End}
use Rattle.shared_lists.specs.declared.walks.Group.{Group as Passed}
use Rattle.shared_lists.specs.Trees.{Group, laid, moved_on, group}

module _ {L : Type 0} where
  abbrev pub group_of : Passed L → Group L
  group_of passed = record { from = passed.from; to = passed.to; label = passed.label.now }

module _ {T L : Type 0} where
  abbrev pub leaves : Node T L → List T
  leaves node = (laid node).leaves

  abbrev pub leaves_of : List (Ahead T L) → List T
  leaves_of [] = []
  leaves_of (InBranch node ∷ ahead) = leaves node.now ++ leaves_of ahead
  leaves_of (InRun values ∷ ahead) = values.now ++ leaves_of ahead

  -- the next leaf, and what is behind it
  abbrev pub IsNextLeaf : List (Ahead T L) → List (Ahead T L) → Option (Bor T) → Type 0
  IsNextLeaf ahead left found =
      MatchOption found ((leaves_of ahead ≡ []) × (leaves_of left ≡ [])) (λ leaf. leaves_of ahead ≡ leaf.now ∷ leaves_of left)

  -- how many branches there are below
  abbrev pub branches : Node T L → ℕ
  branches Empty = 1
  branches (Run values) = 1
  branches (Both' p first q second) = branches first + branches second + 1
  branches (Group' p tree label) = branches tree + 1

  abbrev pub branches_of : List (Ahead T L) → ℕ
  branches_of [] = 0
  branches_of (InBranch node ∷ ahead) = 2 * branches node.now + branches_of ahead
  branches_of (InRun values ∷ ahead) = 1 + branches_of ahead

  abbrev pub groups : Node T L → List (Group L)
  groups node = (laid node).groups

  -- the groups that lie ahead, or whose end does, where so many leaves were passed
  abbrev pub groups_of : ℕ → List (Step T L) → List (Group L)
  groups_of passed [] = []
  groups_of passed (Branch node ∷ steps) = moved_on passed (groups node.now) ++ groups_of (passed + length (leaves node.now)) steps
  groups_of passed (End from label ∷ steps) = group from passed label.now ∷ groups_of passed steps

  -- the next group, and the steps behind it
  abbrev pub IsNextGroup : ℕ → List (Step T L) → ℕ → List (Step T L) → Option (Passed L) → Type 0
  IsNextGroup passed ahead now left found =
      MatchOption found ((groups_of passed ahead ≡ []) × (groups_of now left ≡ [])) (λ next. groups_of passed ahead ≡ group_of next ∷ groups_of now left)

  abbrev pub steps_of : List (Step T L) → ℕ
  steps_of [] = 0
  steps_of (Branch node ∷ steps) = 2 * branches node.now + steps_of steps
  steps_of (End from label ∷ steps) = 1 + steps_of steps
