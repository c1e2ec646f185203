use Rattle.particle_restrict.proofs.Mapping.{turned_window}
use Rattle.particle_restrict.proofs.tables.turn.Goals as goal

pub returns : goal.returns
returns g c = record {
  len = c.loop-i.invariant.count;
  values = λ i l. turned_window (g.P.Pairs.restricts c.args.pairs.now) c.args.j c.args.low c.args.end c.loop-i.i c.args.optional c.args.row.now.items c.loop-i.row.items
      c.loop-i-test.false c.requires.outside c.requires.next c.loop-i.invariant.done c.loop-i.invariant.under c.loop-i.invariant.left i;
}
