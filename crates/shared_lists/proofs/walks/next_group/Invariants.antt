use Rattle.std.proofs.Common.{◌≡◌, reverse}
use Rattle.shared_lists.specs.Walks.{groups_of, steps_of}
use Rattle.shared_lists.proofs.walks.next_group.Given as goal

abbrev pub invariant-down : goal.invariant-down
invariant-down g l = groups_of l.passed (reverse l.ahead.items) ≡ groups_of l.initial.passed (reverse l.initial.ahead.items)

abbrev pub decreases-down : goal.decreases-down
decreases-down g l = steps_of (reverse l.ahead.items)
