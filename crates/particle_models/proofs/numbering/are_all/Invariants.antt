use Rattle.std.proofs.Common.{◌≡◌, drop}
use Rattle.particle_models.specs.Numbering.{all_flags}
use Rattle.particle_models.proofs.numbering.are_all.Given as goal

abbrev pub invariant-loop-member : goal.invariant-loop-member
invariant-loop-member l = all_flags l.flags (drop l.member-index l.members) ≡ all_flags l.flags l.members
