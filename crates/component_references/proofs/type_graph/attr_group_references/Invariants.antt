use Rattle.std.proofs.Common.{◌≡◌, map, take}
use Rattle.component_references.proofs.type_graph.attr_group_references.Given as goal

abbrev pub invariant-loop-part : goal.invariant-loop-part
invariant-loop-part l = l.refs.items ≡ map (λ part. part.groups) (take l.part-index l.part-items)
