use Rattle.std.proofs.Common.{◌≡◌, ◌*◌, length}
use Rattle.particle_restrict.specs.Tables.{AreCells}
use Rattle.particle_restrict.proofs.cells.cells_of.Given as goal

abbrev pub invariant-loop-d : goal.invariant-loop-d
invariant-loop-d g l = record {
  count : length l.cells.items ≡ l.d * length l.sides.base.now;
  cells : AreCells l.sides.terms.now (g.T.Derivation.derives l.sides.types.now) l.sides.derived.now l.sides.base.now l.cells.items;
}
