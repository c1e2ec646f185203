use Rattle.std.proofs.Common.{◌≡◌, [], map, length, take}
use Rattle.particle_models.specs.Parts.{trees_from}
use Rattle.particle_restrict.specs.Totals.{total}
use Rattle.particle_restrict.proofs.totals.totals_of.Given as goal

abbrev pub invariant-loop-part : goal.invariant-loop-part
invariant-loop-part l = record {
  count : length l.table.items ≡ l.part-index;
  table : l.table.items ≡ map total (trees_from [] (take l.part-index l.parts));
}
