use Rattle.std.proofs.Common.{sym, ◌∙◌}
use Rattle.simple_values.proofs.Integers.{integer_pointed, integer_unpointed}
use Rattle.simple_values.proofs.numbers.read_integer.Goals as goal

pub returns-then-has_point : goal.returns-then-has_point
returns-then-has_point c = integer_pointed c.args.text.now (sym c.has_point.ensures ∙ c.if-has_point.true)

pub returns : goal.returns
returns c = c.read_decimal.ensures ∙ integer_unpointed c.args.text.now (sym c.has_point.ensures ∙ c.if-has_point.false)
