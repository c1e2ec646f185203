use Rattle.std.proofs.Common.{length, ap, arith}
use Rattle.child_trees.proofs.Viewing.{item_within}
use Rattle.child_trees.proofs.seqs.Seqs.slots.Goals as goal

pub returns-clause-items : goal.returns-clause-items
returns-clause-items g c = rw (← c.self.view_is) (λ i h.
    let M = g.M.Summary in let s = c.self.inside in
    let w = item_within M.unit M.join s.cells s.trees.nodes s.tops c.self.invariant.lists i h in
    omega (arith, w, ap length c.nodes.ensures))

pub returns-clause-used : goal.returns-clause-used
returns-clause-used g c = rw (← c.self.view_is) (omega (arith, c.self.invariant.slots, c.spare.ensures, ap length c.nodes.ensures))
