use Rattle.redefine_names.proofs.NamedLaws.{declared-in}
use Rattle.redefine_names.proofs.names.add_version.Goals as goal

pub add_declared-requires : goal.add_declared-requires
add_declared-requires c = record {
  named = declared-in c.args.names.now c.args.reps.now c.in-Some.place c.declared_at.result c.in-Some-declared_at.declared c.declared_at.ensures c.in-Some-declared_at.is c.requires.named;
}
