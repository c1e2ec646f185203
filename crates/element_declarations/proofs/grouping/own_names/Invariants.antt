use Rattle.std.proofs.Common.{◌≡◌, ◌∷◌, [], map, take}
use Rattle.element_declarations.proofs.grouping.own_names.Given as goal

abbrev pub invariant-loop-element : goal.invariant-loop-element
invariant-loop-element l = l.lists.items ≡ map (λ part. part.name ∷ []) (take l.element-index l.parts.elements.parts)
