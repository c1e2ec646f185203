use Rattle.std.proofs.Common.{◌∙◌, ap}
use Rattle.std.specs.Ordering.{is_le}
use Rattle.pattern_syntax.proofs.Comparing.{at_most_fewer, at_most_same, at_most_more}
use Rattle.pattern_syntax.proofs.digits.is_at_most.Goals as goal

pub returns-then-least-most : goal.returns-then-least-most
returns-then-least-most c = at_most_fewer c.args.least.now c.args.most.now c.without_zeros-least.result.now c.without_zeros-most.result.now c.requires.least c.requires.most c.without_zeros-least.ensures c.without_zeros-most.ensures c.if-least-most.true

pub returns-then-least-most-2 : goal.returns-then-least-most-2
returns-then-least-most-2 c = at_most_same c.args.least.now c.args.most.now c.without_zeros-least.result.now c.without_zeros-most.result.now _ c.requires.least c.requires.most c.without_zeros-least.ensures c.without_zeros-most.ensures c.if-least-most-2.true (c.is_le.ensures ∙ ap is_le c.cmp.ensures)

pub returns-else-least-most-2 : goal.returns-else-least-most-2
returns-else-least-most-2 c = at_most_more c.args.least.now c.args.most.now c.without_zeros-least.result.now c.without_zeros-most.result.now c.requires.least c.requires.most c.without_zeros-least.ensures c.without_zeros-most.ensures c.if-least-most.false c.if-least-most-2.false
