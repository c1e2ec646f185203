use Rattle.std.proofs.Common.{arith}
use Rattle.plain_tree.proofs.RowLaws.{rows_end}
use Rattle.plain_tree.proofs.naming.add_names.Goals as goal

pub returns-clause-table : goal.returns-clause-table
returns-clause-table c =
    let e = c.loop-row-test.false in
    rows_end c.args.names.now c.loop-row.names c.args.tree.now.forest c.rows-row-items.result.now c.loop-row.row-index c.rows-row-items.ensures (omega arith) c.loop-row.invariant.table
