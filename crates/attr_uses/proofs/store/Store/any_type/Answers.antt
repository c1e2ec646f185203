use Rattle.attr_uses.proofs.MadeLaws.{any-table}
use Rattle.attr_uses.proofs.store.Store.any_type.Goals as goal

pub returns : goal.returns
returns c = record { table = λ t ids. any-table t ids c.args.self.now c.requires.store c.nothing.result (c.nothing.ensures.table t ids) }
