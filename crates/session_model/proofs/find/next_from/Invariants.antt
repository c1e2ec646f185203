use Rattle.std.proofs.Common.{◌≡◌, length, map}
use Rattle.session_model.specs.Asking.{number_after}
use Rattle.tree_assess.specs.Entries.{entry_of}
use Rattle.session_model.proofs.find.next_from.Given as goal

abbrev pub invariant-entries : goal.invariant-entries
invariant-entries l = number_after l.node (map entry_of l.left) ≡ number_after l.node (map entry_of l.entries)

abbrev pub decreases-entries : goal.decreases-entries
decreases-entries l = length l.left
