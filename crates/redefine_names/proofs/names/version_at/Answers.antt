use Rattle.redefine_names.proofs.NamedLaws.{declared-in}
use Rattle.redefine_names.proofs.names.version_at.Goals as goal

pub number_of-requires : goal.number_of-requires
number_of-requires c = record {
  named = declared-in c.args.names.now c.args.reps.now c.args.place c.declared_at.result c.in-Some.declared c.declared_at.ensures c.in-Some.is c.requires.named;
}
