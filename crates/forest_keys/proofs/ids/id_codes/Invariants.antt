use Rattle.std.proofs.Common.{take}
use Rattle.identity_tables.specs.Table.{IsTableOf}
use Rattle.forest_keys.proofs.Together.{atoms_in}
use Rattle.forest_keys.proofs.ids.id_codes.Given as goal

abbrev pub invariant-loop-entry : goal.invariant-loop-entry
invariant-loop-entry l = IsTableOf l.ids (atoms_in (take l.entry-index l.entries))
