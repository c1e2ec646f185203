use Rattle.std.proofs.Common.{◌≡◌, ◌++◌, map, drop}
use Rattle.tag_names.specs.Packed.{line_at}
use Rattle.tag_names.specs.Tags.{bindings_in}
use Rattle.tag_names.proofs.packed.bindings_at.Given as goal

abbrev pub invariant-loop-spot : goal.invariant-loop-spot
invariant-loop-spot l = l.bindings ++ bindings_in (map (line_at l.text) (drop l.spot-index l.spots)) ≡ bindings_in (map (line_at l.text) l.spots)
