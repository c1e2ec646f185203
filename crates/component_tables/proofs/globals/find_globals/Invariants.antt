use Rattle.std.proofs.Common.{◌≡◌, ℕ, None, take}
use Rattle.std.specs.Prelude.{slice_index_or}
use Rattle.component_tables.specs.Types.{global_from}
use Rattle.component_tables.proofs.globals.find_globals.Given as goal

abbrev pub invariant-loop-number : goal.invariant-loop-number
invariant-loop-number l = (name : ℕ) → slice_index_or l.globals.items name None ≡ global_from (take l.number l.parts.elements.parts) 0 name
