use Rattle.std.proofs.Common.{◌≡◌, map, take}
use Rattle.particle_forms.specs.Accepted.{term_is_inhabited}
use Rattle.xs_components.specs.declared.particle.Particle.{Particle as Part}
use Rattle.particle_forms.proofs.inhabited.Inhabited.of.Given as goal

abbrev pub invariant-loop-part : goal.invariant-loop-part
invariant-loop-part l = l.flags.items ≡ map (λ (part : Part). term_is_inhabited l.members part.term) (take l.part-index l.part-items)
