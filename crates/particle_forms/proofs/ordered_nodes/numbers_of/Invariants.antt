use Rattle.std.proofs.Common.{◌≡◌, map, take}
use Rattle.std.specs.Prelude.{nat_eq}
use Rattle.std.specs.HashMap.{get}
use Rattle.particle_forms.specs.Made.{number_at}
use Rattle.particle_forms.proofs.ordered_nodes.numbers_of.Given as goal

abbrev pub invariant-loop-member : goal.invariant-loop-member
invariant-loop-member l = l.below ≡ map (number_at (get nat_eq l.numbers)) (take l.member-index l.members)
