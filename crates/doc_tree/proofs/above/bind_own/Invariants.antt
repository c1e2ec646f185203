use Rattle.std.proofs.Common.{◌≡◌, ◌++◌, map, take}
use Rattle.std.specs.Prelude.{reverse}
use Rattle.doc_nodes.specs.declared.content.NameBinding.{NameBinding}
use Rattle.doc_tree.proofs.above.bind_own.Given as goal

abbrev pub invariant-loop-binding : goal.invariant-loop-binding
invariant-loop-binding l = l.scope ≡ reverse (map (λ (b : NameBinding). (b.prefix, b.namespace)) (take l.binding-index l.bindings)) ++ l.fn.scope
