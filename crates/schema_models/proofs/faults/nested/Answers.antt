use Rattle.schema_models.proofs.FindLaws.{all-there}
use Rattle.schema_models.proofs.FaultLaws.{nest}
use Rattle.schema_models.proofs.faults.nested.Goals as goal

pub particle_fault-requires : goal.particle_fault-requires
particle_fault-requires c = record { there = all-there c.args.parts.now c.args.q c.in_ok-all.all c.in_ok-all.ensures.found }

pub returns : goal.returns
returns c = nest c.args.parts.now c.args.q c.in_ok-all.all c.particle_fault.result c.in_ok-all.ensures.found c.particle_fault.ensures
