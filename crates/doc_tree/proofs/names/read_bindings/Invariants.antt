use Rattle.std.proofs.Common.{◌≡◌, map, take}
use Rattle.doc_changes.specs.Stands.{binding_of}
use Rattle.doc_tree.proofs.names.read_bindings.Given as goal

abbrev pub invariant-loop-binding : goal.invariant-loop-binding
invariant-loop-binding l = l.read ≡ map (binding_of l.names) (take l.binding-index l.bindings)
