use Rattle.particle_forms.proofs.MadeLaws.{group-there}
use Rattle.schema_models.proofs.found.push_parts.Goals as goal

pub group-requires : goal.group-requires
group-requires c = group-there c.args.parts.now c.requires.ranked c.args.id _ c.particle.ensures.part _ c.in-Group.is
