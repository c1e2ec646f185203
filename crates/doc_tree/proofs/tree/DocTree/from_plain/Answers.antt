use Rattle.std.proofs.Common.{length, ap, arith}
use Rattle.tree_building.proofs.RowCounts.{count-rows}
use Rattle.doc_tree.proofs.Counting.{counted}
use Rattle.doc_tree.proofs.tree.DocTree.from_plain.Goals as goal

pub overflow_cast-count : goal.overflow_cast-count
overflow_cast-count c =
    let few = c.in_ok-links.ensures.stands.tree.few in let rows = ap length c.rows.ensures in let all = count-rows 1 c.args.tree.now.forest in
    omega (arith, few, rows, all)

pub invariant_of-result : goal.invariant_of-result
invariant_of-result c =
    let k = counted c.nodes_of.new.names c.in_ok-links.links c.args.tree.now c.in_ok-links.ensures.stands in
    let rows = ap length c.rows.ensures in let all = count-rows 1 c.args.tree.now.forest in
    omega (arith, k, rows, all)
