use Rattle.std.proofs.Common.{ap, ◌∙◌, length, arith}
use Rattle.std.proofs.lemmas.List.{length_push}
use Rattle.particle_restrict.proofs.CellLaws.{cells-more}
use Rattle.particle_restrict.proofs.cells.add_row.Goals as goal

pub loop-b-preserved : goal.loop-b-preserved
loop-b-preserved g c =
    let inv = c.loop-b.invariant in
    record {
      count = (let k = ap length c.in_ok-push.ensures.items ∙ length_push c.loop-b.cells.items c.in_ok-cell.cell in let e = inv.count in omega arith);
      cells = rw c.in_ok-push.ensures.items (cells-more c.args.sides.now.terms.now (g.T.Derivation.derives c.args.sides.now.types.now) c.args.sides.now.derived.now c.args.sides.now.base.now
          c.loop-b.cells.items c.args.d c.loop-b.b c.in_ok-cell.cell c.loop-b-test.true inv.count inv.cells c.in_ok-cell.ensures);
    }
