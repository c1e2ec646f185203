use Rattle.std.proofs.Common.{take}
use Rattle.doc_changes.proofs.PlantedNames.{BindingsSoFar}
use Rattle.doc_changes.proofs.naming.name_bindings.Given as goal

abbrev pub invariant-loop-binding : goal.invariant-loop-binding
invariant-loop-binding l = BindingsSoFar l.initial.names l.names l.made (take l.binding-index l.bindings)
