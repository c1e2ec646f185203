use Rattle.std.proofs.Common.{max}
use Rattle.map_rows.proofs.Taking.{Takes_unused}
use Rattle.map_rows.proofs.spare.Spare.take_unused.Goals as goal

pub returns-then-self-clause-ok : goal.returns-then-self-clause-ok
returns-then-self-clause-ok c = λ marks a. Takes_unused c.args.blocks.now.items (max c.args.width 2) marks c.args.self.now a c.if-self.true
