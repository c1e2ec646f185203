use Rattle.std.proofs.Common.{arith}
use Rattle.schema_set.proofs.ReachLaws.{square-some, square-fits}
use Rattle.schema_set.proofs.reaching.square.Goals as goal

pub overflow_mul-result : goal.overflow_mul-result
overflow_mul-result c = let f = square-fits c.args.count c.requires.few in omega (arith, f)

pub returns-clause-some : goal.returns-clause-some
returns-clause-some c = square-some c.args.count c.requires.some
