use Rattle.std.proofs.Common.{◌≡◌, drop}
use Rattle.std.specs.Prelude.{find, is_some}
use Rattle.set_representations.specs.Numbers.{number_at}
use Rattle.build_components.proofs.contents.particle_place.Given as goal

abbrev pub invariant-loop-member : goal.invariant-loop-member
invariant-loop-member l = find (λ member. is_some (number_at l.particles member)) (drop l.member-index l.members) ≡ find (λ member. is_some (number_at l.particles member)) l.members
