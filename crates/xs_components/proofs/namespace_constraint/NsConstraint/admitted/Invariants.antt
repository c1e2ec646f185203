use Rattle.std.proofs.Common.{◌≡◌, take}
use Rattle.std.specs.List.{filter}
use Rattle.xs_components.specs.Sets.{admits}
use Rattle.xs_components.proofs.namespace_constraint.NsConstraint.admitted.Given as goal

abbrev pub invariant-loop-ns : goal.invariant-loop-ns
invariant-loop-ns l = l.kept ≡ filter (admits l.self) (take l.ns-index l.listed)
