use Rattle.std.proofs.Common.{◌≡◌, drop}
use Rattle.simple_values.specs.Reading.{behind, item_values}
use Rattle.simple_values.proofs.reading.read_list.Given as goal

abbrev pub invariant-loop-text : goal.invariant-loop-text
invariant-loop-text l = behind l.atoms (item_values l.item l.scope (drop l.text-index l.found)) ≡ item_values l.item l.scope l.found
