use Rattle.std.proofs.Common.{◌++◌, List, take}
use Rattle.identity_tables.specs.Ids.{BorneAtom, borne_in_all}
use Rattle.identity_tables.specs.Table.{IsTableOf}
use Rattle.identity_tables.proofs.ids.KeptIds.add_values.Given as goal

abbrev pub invariant-loop-value : goal.invariant-loop-value
invariant-loop-value l = (all : List BorneAtom) → IsTableOf l.fn.self all → IsTableOf l.self (all ++ borne_in_all l.bearer (take l.value-index l.values))
