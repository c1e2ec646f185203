use Rattle.std.proofs.Common.{◌≡◌, drop}
use Rattle.representations.specs.Documents.{shapes_table}
use Rattle.representations.proofs.numbering.add_shapes.Given as goal

abbrev pub invariant-loop-shape : goal.invariant-loop-shape
invariant-loop-shape l = shapes_table l.naming (drop l.shape-index l.shapes) l.names ≡ shapes_table l.naming l.shapes l.initial.names
