use Rattle.std.proofs.Common.{◌∙◌}
use Rattle.particle_models.proofs.GroupGrowing.{pushed}
use Rattle.particle_models.proofs.forming.add_part.Goals as goal

pub returns : goal.returns
returns c =
    let number = c.len-number.ensures ∙ c.args.parts.now.ok.0 in
    rw (c.in_ok-push.ensures.items, number) (pushed c.args.parts.now.items c.args.part c.requires.below)
