use Rattle.schema_check.proofs.SetPhaseLaws.{shapes-one, compositions-one, names-one, bases-one, simples-one}
use Rattle.schema_check.proofs.laws_of_sets.early_faults_are_one.Goals as goal

pub returns : goal.returns
returns c = record { shapes = shapes-one; composition = compositions-one; names = names-one; bases = bases-one; types = simples-one }
