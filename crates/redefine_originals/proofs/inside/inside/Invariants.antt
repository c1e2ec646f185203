use Rattle.std.proofs.Common.{◌≡◌, map, take}
use Rattle.redefine_originals.specs.Versions.{inside}
use Rattle.redefine_originals.proofs.inside.inside.Given as goal

abbrev pub invariant-loop-shape : goal.invariant-loop-shape
invariant-loop-shape l = map (λ s. s.now) l.found ≡ inside (take l.shape-index l.shapes) l.fn.parent
