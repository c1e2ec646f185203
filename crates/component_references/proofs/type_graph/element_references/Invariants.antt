use Rattle.std.proofs.Common.{◌≡◌, map, take}
use Rattle.component_references.specs.References.{one_or_none}
use Rattle.component_references.proofs.type_graph.element_references.Given as goal

abbrev pub invariant-loop-part : goal.invariant-loop-part
invariant-loop-part l = l.refs.items ≡ map (λ part. one_or_none part.head) (take l.part-index l.part-items)
