use Rattle.std.proofs.Common.{arith}
use Rattle.schema_set.proofs.ReachLaws.{number-fits}
use Rattle.schema_set.proofs.following.with_place.Goals as goal

pub overflow_mul-row : goal.overflow_mul-row
overflow_mul-row c = let f = number-fits c.args.count c.args.number c.args.place c.requires.number.0 c.requires.number.1 c.requires.place c.requires.few in omega (arith, f.0, f.1)

pub overflow_add-result : goal.overflow_add-result
overflow_add-result c = let f = number-fits c.args.count c.args.number c.args.place c.requires.number.0 c.requires.number.1 c.requires.place c.requires.few in omega (arith, f.0, f.1)
