use Rattle.std.proofs.Common.{◌≡◌, ◌++◌, not, take}
use Rattle.std.specs.List.{filter}
use Rattle.xs_components.specs.Sets.{has}
use Rattle.xs_components.proofs.namespace_constraint.merged.Given as goal

abbrev pub invariant-loop-ns : goal.invariant-loop-ns
invariant-loop-ns l = l.all ≡ l.first ++ filter (λ ns. not (has l.first ns)) (take l.ns-index l.second)
