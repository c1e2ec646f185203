use Rattle.std.proofs.Common.{◌≡◌, ◌+◌, drop, map}
use Rattle.session_model.specs.Asking.{code_total}
use Rattle.tree_assess.specs.Entries.{entry_of}
use Rattle.session_model.proofs.count.count_codes.Given as goal

abbrev pub invariant-loop-entry : goal.invariant-loop-entry
invariant-loop-entry l = l.total + code_total (map entry_of (drop l.entry-index l.entries)) ≡ code_total (map entry_of l.entries)
