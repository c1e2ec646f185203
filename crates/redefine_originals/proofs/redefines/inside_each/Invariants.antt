use Rattle.std.proofs.Common.{◌≡◌, ℕ, map, take, Bor}
use Rattle.std.specs.List.{flat_map}
use Rattle.schema_shape.specs.declared.forms.Shape.{Shape}
use Rattle.redefine_originals.specs.inside.Lists.{listed}
use Rattle.redefine_originals.specs.inside.Redefines.{repeated}
use Rattle.redefine_originals.proofs.redefines.inside_each.Given as goal

abbrev pub invariant-loop-shape : goal.invariant-loop-shape
invariant-loop-shape l = (number : ℕ) → map (λ (s : Bor Shape). s.now) (listed l.inside number) ≡ flat_map (λ s. repeated number (listed l.owners s.item) s) (take l.shape-index l.shapes)
