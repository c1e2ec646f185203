use Rattle.std.proofs.Common.{arith}
use Rattle.doc_nodes.specs.Nodes.{node, children_by, is_element_at}
use Rattle.doc_readers.proofs.Counting.{upto-is}
use Rattle.doc_readers.proofs.texts.texts_upto.Goals as goal

pub overflow_sub-result : goal.overflow_sub-result
overflow_sub-result c =
    let all = upto-is (is_element_at c.args.doc.now) (children_by (node c.args.doc.now c.args.node)) c.args.place c.requires in
    let before = c.elements_upto.ensures.count in
    omega (arith, all, before)

pub returns : goal.returns
returns c =
    let all = upto-is (is_element_at c.args.doc.now) (children_by (node c.args.doc.now c.args.node)) c.args.place c.requires in
    let before = c.elements_upto.ensures.count in
    omega (arith, all, before)
