use Rattle.key_records.proofs.TargetLaws.{repeated-by}
use Rattle.key_records.proofs.records.KeyRecords.has_repeated.Goals as goal

pub returns : goal.returns
returns c = λ t counted records.
    repeated-by t c.args.references.now counted c.args.self.now c.args.scope c.args.constraint c.is_referred.result c.has_equal.result records c.is_referred.ensures c.has_equal.ensures
