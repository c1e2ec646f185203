use Rattle.std.proofs.Common.{[], ap}
use Rattle.std.specs.Option.{unwrap_or}
use Rattle.identity_tables.proofs.key_tables.KeyTables.table.Goals as goal

pub returns : goal.returns
returns c = rw (← c.self.view_is) (ap (λ o. unwrap_or o []) c.get.ensures.value)
