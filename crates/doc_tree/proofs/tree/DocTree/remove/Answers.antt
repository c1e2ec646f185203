use Rattle.std.proofs.Common.{◌≢◌, None, sym, subst, arith}
use Rattle.doc_nodes.specs.Nodes.{Nodes}
use Rattle.doc_changes.specs.Held.{parent_at}
use Rattle.doc_changes.specs.Stands.{StandsFor}
use Rattle.doc_tree.proofs.Counting.{removed_is}
use Rattle.doc_tree.proofs.tree.DocTree.remove.Goals as goal

pub overflow_sub-self : goal.overflow_sub-self
overflow_sub-self c =
    let old = c.self.inside.links in let new = c.remove_node-gone.new.links in let n = c.args.node in let q = c.requires.stands in
    let z = subst (λ (ns : Nodes). StandsFor q.0 ns q.1) (sym c.self.view_is) q.2 in
    let r = removed_is q.0 old new q.1 z n c.remove_node-gone.result (subst (λ (ns : Nodes). parent_at ns n ≢ None) (sym c.self.view_is) c.requires.node) c.remove_node-gone.ensures.count (c.remove_node-gone.ensures.tree q.0 q.1 z) in
    let i = c.self.invariant in omega (arith, r, i)

pub invariant_of-self : goal.invariant_of-self
invariant_of-self c =
    let old = c.self.inside.links in let new = c.remove_node-gone.new.links in let n = c.args.node in let q = c.requires.stands in
    let z = subst (λ (ns : Nodes). StandsFor q.0 ns q.1) (sym c.self.view_is) q.2 in
    let r = removed_is q.0 old new q.1 z n c.remove_node-gone.result (subst (λ (ns : Nodes). parent_at ns n ≢ None) (sym c.self.view_is) c.requires.node) c.remove_node-gone.ensures.count (c.remove_node-gone.ensures.tree q.0 q.1 z) in
    let i = c.self.invariant in omega (arith, r, i)

pub returns-clause-tree : goal.returns-clause-tree
returns-clause-tree c = rw (← c.self.view_is) c.remove_node-gone.ensures.tree

pub returns-clause-change : goal.returns-clause-change
returns-clause-change c = rw (← c.self.view_is) c.remove_node-gone.ensures.change
