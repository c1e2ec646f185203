use Rattle.element_declarations.proofs.BlockLaws.{goes-on}
use Rattle.element_declarations.proofs.blocking.between.Goals as goal

pub up-preserved : goal.up-preserved
up-preserved c =
    goes-on c.args.parts.now c.args.base.now c.args.sub.now c.up.at c.in-Some.next c.up.found c.prohibited.result c.both-found.result
    c.in-Some.ensures c.prohibited.ensures c.both-found.ensures.extension c.both-found.ensures.restriction c.up.invariant
