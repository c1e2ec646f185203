use Rattle.std.proofs.Common.{◌≡◌, take}
use Rattle.component_references.specs.References.{behind}
use Rattle.component_references.proofs.rows.particle_row.Given as goal

abbrev pub invariant-loop-particle : goal.invariant-loop-particle
invariant-loop-particle l = l.row ≡ behind l.groups (take l.particle-index l.particles)
