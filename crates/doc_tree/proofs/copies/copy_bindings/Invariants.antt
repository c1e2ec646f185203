use Rattle.std.proofs.Common.{◌≡◌, take}
use Rattle.doc_tree.proofs.copies.copy_bindings.Given as goal

abbrev pub invariant-loop-binding : goal.invariant-loop-binding
invariant-loop-binding l = l.made ≡ take l.binding-index l.bindings
