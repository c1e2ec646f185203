use Rattle.key_records.proofs.TargetLaws.{unmatched-by}
use Rattle.key_records.proofs.records.KeyRecords.has_unmatched.Goals as goal

pub returns : goal.returns
returns c = λ t refs counted key below sound records is children stand.
    unmatched-by t refs counted c.args.self.now c.args.scope c.args.keyref key below sound records is children stand c.has_entries.result c.has_entries.ensures
