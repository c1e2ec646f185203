use Rattle.key_records.proofs.ReferenceLaws.{few-there}
use Rattle.key_records.proofs.references.References.key_of.Goals as goal

pub returns-clause-few : goal.returns-clause-few
returns-clause-few c = few-there c.args.self.now c.args.constraint c.find.result c.requires c.find.ensures
