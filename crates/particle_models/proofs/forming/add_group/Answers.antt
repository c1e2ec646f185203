use Rattle.std.proofs.Common.{sym, ◌∙◌}
use Rattle.particle_models.proofs.Gathering.{stays}
use Rattle.particle_models.proofs.forming.add_group.Goals as goal

pub returns : goal.returns
returns c =
    let is = rw c.from_vec.ensures at c.in_ok-id.ensures in
    let number = c.len.ensures ∙ c.args.members.ok.0 in
    let no = rw number at (sym c.is_pointless.ensures ∙ c.if-is_pointless.false) in
    rw (stays c.args.parts.now.items c.args.bounds c.args.compositor c.args.members.items no) is
