use Rattle.std.proofs.Common.{◌≡◌, ◌++◌, drop}
use Rattle.std.specs.List.{flat_map}
use Rattle.reference_faults.specs.References.{simple_references}
use Rattle.reference_faults.proofs.reference.push_simple_types.Given as goal

abbrev pub invariant-loop-of : goal.invariant-loop-of
invariant-loop-of l = l.refs.items ++ flat_map simple_references (drop l.of-index l.types) ≡ l.initial.refs.items ++ flat_map simple_references l.types
