use Rattle.std.proofs.Common.{◌≡◌, ◌++◌, map, take}
use Rattle.component_references.specs.Ranked.{named_types}
use Rattle.component_references.specs.References.{type_number, type_numbers, simple_references}
use Rattle.component_references.proofs.type_graph.type_references.Given as goal

abbrev pub invariant-loop-part : goal.invariant-loop-part
invariant-loop-part l = l.refs.items ≡ map (λ part. type_numbers l.simples (named_types part.form)) (take l.part-index l.part-items)

abbrev pub invariant-loop-part-2 : goal.invariant-loop-part-2
invariant-loop-part-2 l = l.refs.items ≡ simple_references l.parts ++ map (λ part. type_number l.simples part.base) (take l.part-index l.part-items)
