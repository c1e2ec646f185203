use Rattle.derive_models.proofs.GroupLaws.{read-part, particle-there}
use Rattle.derive_models.proofs.group_forms.particle_of.Goals as goal

pub returns-in-Some-clause-there : goal.returns-in-Some-clause-there
returns-in-Some-clause-there c =
    particle-there c.args.parts.now c.requires.ranked c.args.group c.in-Some.part.now
    (read-part c.args.parts.now c.groups.result.now c.groups.ensures.parts c.args.group c.in-Some.part.now c.in-Some.ensures.lookup.3.0 c.in-Some.ensures.lookup.1)
