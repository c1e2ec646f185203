use Rattle.std.proofs.Common.{rules, ◌≢◌}
use Rattle.element_declarations.proofs.BlockLaws.{next-is}
use Rattle.element_declarations.proofs.blocking.next_between.Goals as goal

pub returns-else-eq-2 : goal.returns-else-eq-2
returns-else-eq-2 c =
    let below : c.args.sub.now ≢ c.args.base.now = search rules in
    let other : c.complex.result.now.base ≢ c.args.base.now = search rules in
    next-is c.args.parts.now c.requires.ranked c.args.base.now c.args.sub.now c.in-Complex.id c.complex.result.now c.in-Complex.is c.complex.ensures.part below other
