use Rattle.std.proofs.Common.{◌≡◌, map, take}
use Rattle.tag_names.specs.Packed.{line_at}
use Rattle.tag_names.proofs.packed.copy_lines.Given as goal

abbrev pub invariant-loop-spot : goal.invariant-loop-spot
invariant-loop-spot l = l.lines ≡ map (line_at l.text) (take l.spot-index l.spots)
