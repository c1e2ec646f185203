use Rattle.doc_changes.proofs.Changing.{own_below, is_over, stands_removed, placed}
use Rattle.doc_changes.proofs.parts.remove_node.Goals as goal

pub prune-requires-clause-over : goal.prune-requires-clause-over
prune-requires-clause-over c =
    let q = c.requires.stands in let old = c.args.links.now in let n = c.args.number in
    let p = placed old n q.2.links c.requires.node in
    (q.0, own_below q.0 old old q.1 q.2 n p.it p.is, is_over q.0 old old q.1 q.2 n p.it p.is)

pub returns-clause-tree : goal.returns-clause-tree
returns-clause-tree c = λ t d z.
    let old = c.args.links.now in let new = c.prune.new.links in let n = c.args.number in
    let p = placed old n z.links c.requires.node in
    stands_removed t old new d z n p.it p.is p.parent p.place p.at
    (c.prune.ensures.prunes t (own_below t old new d z n p.it p.is) (is_over t old new d z n p.it p.is) p.parent p.place p.at) c.prune.ensures.sound p.below
