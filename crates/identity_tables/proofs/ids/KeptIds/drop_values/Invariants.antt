use Rattle.std.proofs.Common.{◌++◌, List, drop}
use Rattle.identity_tables.specs.Ids.{BorneAtom, borne_in_all}
use Rattle.identity_tables.specs.Table.{IsTableOf}
use Rattle.identity_tables.proofs.ids.KeptIds.drop_values.Given as goal

abbrev pub invariant-loop-value : goal.invariant-loop-value
invariant-loop-value l = (atoms : List BorneAtom) → IsTableOf l.fn.self (borne_in_all l.bearer l.values ++ atoms) → IsTableOf l.self (borne_in_all l.bearer (drop l.value-index l.values) ++ atoms)
