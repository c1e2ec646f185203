use Rattle.std.proofs.Common.{◌≡◌, ◌++◌}
use Rattle.element_declarations.proofs.grouping.as_members.Given as goal

abbrev pub invariant-loop-names : goal.invariant-loop-names
invariant-loop-names l = l.members ++ l.names-iterator.rest.items ≡ l.fn.lists.items
