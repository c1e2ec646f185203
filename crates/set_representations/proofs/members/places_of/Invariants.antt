use Rattle.std.proofs.Common.{◌≡◌, ◌++◌, drop}
use Rattle.std.specs.Prelude.{filter_map}
use Rattle.set_representations.specs.inside.Building.{found}
use Rattle.set_representations.proofs.members.places_of.Given as goal

abbrev pub invariant-loop-item : goal.invariant-loop-item
invariant-loop-item l = l.places ++ filter_map (found l.known) (drop l.item-index l.items) ≡ filter_map (found l.known) l.items
