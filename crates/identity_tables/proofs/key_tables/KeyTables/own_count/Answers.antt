use Rattle.std.proofs.Common.{◌∙◌, ap}
use Rattle.identity_tables.specs.Counts.{count_of}
use Rattle.identity_tables.specs.Tuple.{same_tuple}
use Rattle.identity_tables.proofs.key_tables.KeyTables.own_count.Goals as goal

pub returns-in-None : goal.returns-in-None
returns-in-None c = ap (λ ts. count_of same_tuple ts c.args.tuple.now) c.in-None.ensures

pub returns-in-Some : goal.returns-in-Some
returns-in-Some c = c.count.ensures ∙ ap (λ ts. count_of same_tuple ts c.args.tuple.now) c.in-Some.ensures
