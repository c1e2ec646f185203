use Rattle.std.proofs.Common.{◌≡◌, ◌++◌, map, take}
use Rattle.component_references.specs.References.{behind, one_or_none, term_numbers, group_references}
use Rattle.component_references.proofs.model_graph.model_references.Given as goal

abbrev pub invariant-loop-part : goal.invariant-loop-part
invariant-loop-part l = l.refs.items ≡ map (λ part. behind l.groups (one_or_none part.particle)) (take l.part-index l.part-items)

abbrev pub invariant-loop-part-2 : goal.invariant-loop-part-2
invariant-loop-part-2 l = l.refs.items ≡ group_references l.parts ++ map (λ part. term_numbers l.groups part.term) (take l.part-index l.part-items)
