use Rattle.std.proofs.Common.{◌≡◌, take}
use Rattle.std.specs.Prelude.{filter_map}
use Rattle.schema_set.specs.inside.Following.{next_of}
use Rattle.schema_set.proofs.following.following_of.Given as goal

abbrev pub invariant-loop-shape : goal.invariant-loop-shape
invariant-loop-shape l = l.found.items ≡ filter_map (λ shape. next_of l.sources.available.now l.place shape.form) (take l.shape-index l.shapes)
