use Rattle.std.proofs.Common.{◌++◌, List, take}
use Rattle.identity_tables.specs.Ids.{BorneAtom, borne_by}
use Rattle.identity_tables.specs.Table.{IsTableOf}
use Rattle.identity_tables.proofs.ids.KeptIds.add_items.Given as goal

abbrev pub invariant-loop-item : goal.invariant-loop-item
invariant-loop-item l = (all : List BorneAtom) → IsTableOf l.fn.self all → IsTableOf l.self (all ++ borne_by l.bearer (take l.item-index l.items))
