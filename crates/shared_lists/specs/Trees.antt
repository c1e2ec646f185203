-- Trees of leaves, some of whose branches are groups that have a label.
use Rattle.std.specs.Prelude.{ℕ, ◌+◌, List, [], ◌∷◌, ◌++◌, length, map, Option, None, Some}
use Rattle.shared_lists.specs.declared.trees.Node.{Node}
use Rattle.shared_lists.specs.declared.trees.Node.TheVariants.{Empty, Run, Both', Group'}

-- the leaves from an index and before another, and the label that they have
pub record Group (L : Type 0) : Type 0 where
  pub from : ℕ
  pub to : ℕ
  pub label : L

-- leaves in order, and the groups among them, each behind those that lie within it
pub record Grouped (T L : Type 0) : Type 0 where
  pub leaves : List T
  pub groups : List (Group L)

module _ {L : Type 0} where
  -- the group of leaves that stand so much further behind
  abbrev pub moved_group : ℕ → Group L → Group L
  moved_group by group = record group { from = by + group.from; to = by + group.to }

  abbrev pub moved_on : ℕ → List (Group L) → List (Group L)
  moved_on by groups = map (moved_group by) groups

  abbrev pub group : ℕ → ℕ → L → Group L
  group from to label = record { from = from; to = to; label = label }

module _ {T L : Type 0} where
  abbrev pub no_leaves : Grouped T L
  no_leaves = record { leaves = []; groups = [] }

  abbrev pub run : List T → Grouped T L
  run values = record { leaves = values; groups = [] }

  -- the leaves of the first, and then those of the second
  abbrev pub joined : Grouped T L → Grouped T L → Grouped T L
  joined first second = record {
    leaves = first.leaves ++ second.leaves;
    groups = first.groups ++ moved_on (length first.leaves) second.groups;
  }

  -- all leaves as one group more
  abbrev pub grouped : Grouped T L → L → Grouped T L
  grouped tree label = record tree { groups = tree.groups ++ group 0 (length tree.leaves) label ∷ [] }

  abbrev pub laid : Node T L → Grouped T L
  laid Empty = no_leaves
  laid (Run values) = run values.items
  laid (Both' p first q second) = joined (laid first) (laid second)
  laid (Group' p tree label) = grouped (laid tree) label

  abbrev pub laid_if : Option (Node T L) → Grouped T L
  laid_if None = no_leaves
  laid_if (Some node) = laid node
