use Rattle.std.proofs.Common.{◌≡◌, ◌++◌, drop}
use Rattle.build_types.specs.SimpleTypes as spec
use Rattle.build_types.proofs.simples.named_types.Given as goal

abbrev pub invariant-loop-name : goal.invariant-loop-name
invariant-loop-name l = l.list ++ spec.named_types l.source l.types (drop l.name-index l.names) ≡ spec.named_types l.source l.types l.names
