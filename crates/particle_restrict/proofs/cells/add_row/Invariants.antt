use Rattle.std.proofs.Common.{◌≡◌, ◌+◌, ◌*◌, length}
use Rattle.particle_restrict.specs.Tables.{AreCells}
use Rattle.particle_restrict.proofs.cells.add_row.Given as goal

abbrev pub invariant-loop-b : goal.invariant-loop-b
invariant-loop-b g l = record {
  count : length l.cells.items ≡ l.d * length l.sides.base.now + l.b;
  cells : AreCells l.sides.terms.now (g.T.Derivation.derives l.sides.types.now) l.sides.derived.now l.sides.base.now l.cells.items;
}
