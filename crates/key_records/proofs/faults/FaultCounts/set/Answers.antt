use Rattle.key_records.proofs.FaultLaws.{sets}
use Rattle.key_records.proofs.faults.FaultCounts.set.Goals as goal

pub returns : goal.returns
returns c = sets c.args.self.now (record { counts = c.insert.new.self }) c.args.scope c.args.constraint c.args.faults c.in_ok-insert.ensures.updates.0
