use Rattle.std.proofs.Common.{◌≡◌, reverse}
use Rattle.shared_lists.specs.Walks.{leaves_of, branches_of}
use Rattle.shared_lists.proofs.walks.next_leaf.Given as goal

abbrev pub invariant-down : goal.invariant-down
invariant-down g l = leaves_of (reverse l.ahead.items) ≡ leaves_of (reverse l.initial.ahead.items)

abbrev pub decreases-down : goal.decreases-down
decreases-down g l = branches_of (reverse l.ahead.items)
