use Rattle.std.proofs.Common.{arith}
use Rattle.attr_uses.proofs.StepLaws.{one_more}
use Rattle.attr_uses.proofs.grow.push.Goals as goal

pub returns-clause-grown : goal.returns-clause-grown
returns-clause-grown c = rw c.in_ok-push.ensures.items (one_more c.args.nodes.now.items c.args.node c.requires.nodes c.requires.node (omega arith))
