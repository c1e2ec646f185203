use Rattle.std.proofs.Common.{◌≡◌, ◌++◌, ℕ, map, take, Bor}
use Rattle.schema_shape.specs.declared.forms.Shape.{Shape}
use Rattle.redefine_originals.specs.inside.Lists.{listed}
use Rattle.redefine_originals.specs.inside.Redefines.{repeated}
use Rattle.redefine_originals.proofs.redefines.put_shape.Given as goal

abbrev pub invariant-loop-owner : goal.invariant-loop-owner
invariant-loop-owner l = (number : ℕ) → map (λ (s : Bor Shape). s.now) (listed l.inside number) ≡ map (λ (s : Bor Shape). s.now) (listed l.initial.inside number) ++ repeated number (take l.owner-index l.owners) l.fn.shape
