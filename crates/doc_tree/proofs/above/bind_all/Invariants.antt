use Rattle.std.proofs.Common.{◌≡◌, ◌≤◌, ◌++◌, length, map, drop}
use Rattle.doc_nodes.specs.declared.content.NameBinding.{NameBinding}
use Rattle.doc_tree.proofs.above.bind_all.Given as goal

abbrev pub invariant-loop-left : goal.invariant-loop-left
invariant-loop-left l = record { within : l.left ≤ length l.bindings; bound : l.scope ≡ map (λ (b : NameBinding). (b.prefix, b.namespace)) (drop l.left l.bindings) ++ l.fn.scope }

abbrev pub decreases-loop-left : goal.decreases-loop-left
decreases-loop-left l = l.left
