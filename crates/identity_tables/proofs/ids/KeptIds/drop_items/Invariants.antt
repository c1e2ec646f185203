use Rattle.std.proofs.Common.{◌++◌, List, drop}
use Rattle.identity_tables.specs.Ids.{BorneAtom, borne_by}
use Rattle.identity_tables.specs.Table.{IsTableOf}
use Rattle.identity_tables.proofs.ids.KeptIds.drop_items.Given as goal

abbrev pub invariant-loop-item : goal.invariant-loop-item
invariant-loop-item l = (atoms : List BorneAtom) → IsTableOf l.fn.self (borne_by l.bearer l.items ++ atoms) → IsTableOf l.self (borne_by l.bearer (drop l.item-index l.items) ++ atoms)
