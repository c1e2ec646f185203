use Rattle.std.proofs.Common.{◌∙◌}
use Rattle.key_records.proofs.FaultLaws.{no-more-faults, fewer-faults}
use Rattle.key_records.proofs.faults.FaultCounts.remove.Goals as goal

pub returns-then-is_none : goal.returns-then-is_none
returns-then-is_none c = no-more-faults c.args.self.now c.args.scope c.args.constraint c.args.found c.is_none.result c.is_none.ensures c.if-is_none.true

pub without-fewer-requires : goal.without-fewer-requires
without-fewer-requires c = (c.requires.0, c.at.ensures ∙ c.requires.1)

pub returns : goal.returns
returns c = fewer-faults c.args.self.now c.set.new.self c.args.scope c.args.constraint c.args.found c.at.result c.without-fewer.result c.at.ensures c.without-fewer.ensures c.in_ok-set.ensures
