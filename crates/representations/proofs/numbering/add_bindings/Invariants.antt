use Rattle.std.proofs.Common.{◌≡◌, drop}
use Rattle.representations.specs.Documents.{bindings_table}
use Rattle.representations.proofs.numbering.add_bindings.Given as goal

abbrev pub invariant-loop-binding : goal.invariant-loop-binding
invariant-loop-binding l = bindings_table (drop l.binding-index l.bindings) l.names ≡ bindings_table l.bindings l.initial.names
