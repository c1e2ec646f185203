use Rattle.std.proofs.Common.{refl}
use Rattle.xs_components.specs.Changes.{with_particle}
use Rattle.xs_components.proofs.ChangeLaws.{change_at-set}
use Rattle.xs_components.proofs.components.Components.set_particle.Goals as goal

pub returns : goal.returns
returns c =
    let law = change_at-set (with_particle c.args.particle) c.self.inside.groups.parts c.id.inside.number c.part_mut.result.now c.part_mut.ensures.part in
    record { particle = rw (← c.self.view_is, ← c.id.view_is) (rw law refl) }
