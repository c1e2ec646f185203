use Rattle.std.proofs.Common.{◌≡◌, take}
use Rattle.facet_checks.proofs.list.same_steps.Given as goal

abbrev pub invariant-loop-patterns : goal.invariant-loop-patterns
invariant-loop-patterns l = l.copies.items ≡ take l.patterns-index l.steps
