use Rattle.std.proofs.Common.{refl}
use Rattle.xs_components.specs.Changes.{with_head}
use Rattle.xs_components.proofs.ChangeLaws.{change_at-set}
use Rattle.xs_components.proofs.components.Components.set_head.Goals as goal

pub returns : goal.returns
returns c =
    let law = change_at-set (with_head c.args.head) c.self.inside.elements.parts c.id.inside.number c.part_mut.result.now c.part_mut.ensures.part in
    record { head = rw (← c.self.view_is, ← c.id.view_is) (rw law refl) }
