use Rattle.std.proofs.Common.{◌+◌, [], refl, ap, arith}
use Rattle.doc_nodes.specs.Nodes.{node}
use Rattle.doc_changes.proofs.Clearing.{cleared_node, cleared_parent, child_still, pruned}
use Rattle.doc_changes.proofs.parts.prune.Goals as goal

pub take-requires : goal.take-requires
take-requires c =
    let q = c.requires.over in let old = c.args.links.now in let n = c.args.number in let mid = c.clear-gone.new.links in
    let k = c.clear-gone.ensures.clears q.0 q.1 q.2 in
    (record q.2.it { children = [] }, cleared_node q.0 old mid mid n q.1 q.2 k, refl, cleared_parent q.0 old mid mid n q.1 q.2 k (node old n) refl c.requires.parent)

pub overflow_add-result : goal.overflow_add-result
overflow_add-result c =
    let q = c.requires.over in let e = c.clear-gone.ensures.count q.0 q.1 q.2 in let f = q.2.few in omega (arith, e, f)

pub returns-clause-prunes : goal.returns-clause-prunes
returns-clause-prunes c = λ t below over p place at.
    let old = c.args.links.now in let n = c.args.number in let mid = c.clear-gone.new.links in
    let k = c.clear-gone.ensures.clears t below over in
    pruned t old mid c.take.new.self n below over k p place at (c.take.ensures.change p place (child_still t old mid c.take.new.self n below over k p place at))

pub returns-clause-count : goal.returns-clause-count
returns-clause-count c = λ t below over. ap (λ x. x + 1) (c.clear-gone.ensures.count t below over)
