use Rattle.std.proofs.Common.{sym, subst, arith}
use Rattle.tree_rows.specs.Forest.{none, text}
use Rattle.doc_nodes.specs.Nodes.{Nodes}
use Rattle.doc_changes.specs.Stands.{StandsFor}
use Rattle.doc_tree.proofs.Counting.{planted_count, room_for}
use Rattle.doc_tree.proofs.tree.DocTree.add_text.Goals as goal

pub overflow_add-self : goal.overflow_add-self
overflow_add-self c =
    let q = c.requires.fits in let old = c.self.inside.links in let i = c.self.invariant in
    let z = subst (λ (ns : Nodes). StandsFor q.0 ns q.1) (sym c.self.view_is) q.2 in
    let r = room_for q.0 old q.1 z c.args.parent c.args.index (text 0 c.args.text none) q.3 in
    omega (arith, r, i)

pub invariant_of-self-2 : goal.invariant_of-self-2
invariant_of-self-2 c =
    let q = c.requires.fits in let old = c.self.inside.links in let i = c.self.invariant in
    let z = subst (λ (ns : Nodes). StandsFor q.0 ns q.1) (sym c.self.view_is) q.2 in
    let r = planted_count q.0 q.0 old c.add_text.new.links q.1 z c.args.parent c.args.index (text 0 c.args.text none) q.3 (c.in_ok-number.ensures.tree q.0 q.1 z) in
    omega (arith, r, i)

pub returns-clause-tree : goal.returns-clause-tree
returns-clause-tree c = rw (← c.self.view_is) c.in_ok-number.ensures.tree

pub returns-clause-change : goal.returns-clause-change
returns-clause-change c = rw (← c.self.view_is) c.in_ok-number.ensures.change
