use Rattle.key_records.proofs.FaultLaws.{no-more-faults, more-faults}
use Rattle.key_records.proofs.faults.FaultCounts.add.Goals as goal

pub returns-then-is_none : goal.returns-then-is_none
returns-then-is_none c = no-more-faults c.args.self.now c.args.scope c.args.constraint c.args.found c.is_none.result c.is_none.ensures c.if-is_none.true

pub returns : goal.returns
returns c = more-faults c.args.self.now c.set.new.self c.args.scope c.args.constraint c.args.found c.at.result c.in-Some.more c.at.ensures c.in-Some.ensures c.in_ok-set.ensures
