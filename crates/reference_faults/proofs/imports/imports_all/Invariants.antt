use Rattle.std.proofs.Common.{◌≡◌, drop}
use Rattle.std.specs.List.{list_all}
use Rattle.reference_faults.specs.Imports.{is_imported}
use Rattle.reference_faults.proofs.imports.imports_all.Given as goal

abbrev pub invariant-loop-reference : goal.invariant-loop-reference
invariant-loop-reference l = list_all (is_imported l.names l.origin) (drop l.reference-index l.refs) ≡ list_all (is_imported l.names l.origin) l.refs
