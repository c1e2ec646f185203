use Rattle.std.proofs.Common.{◌≡◌, ◌++◌, map, take}
use Rattle.redefine_originals.specs.inside.Entries.{child_entry}
use Rattle.redefine_originals.specs.inside.Redefines.{child_in}
use Rattle.redefine_originals.proofs.redefines.put_inside.Given as goal

abbrev pub invariant-loop-shape : goal.invariant-loop-shape
invariant-loop-shape l = map child_entry l.children ≡ map child_entry l.initial.children ++ map (child_in l.location) (map (λ s. s.now) (take l.shape-index l.inside))
