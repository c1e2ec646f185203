use Rattle.std.proofs.Common.{◌≡◌, ℕ, ◌+◌, ◌≤◌, sym, subst, arith}
use Rattle.doc_nodes.specs.Nodes.{Nodes}
use Rattle.doc_changes.specs.Stands.{StandsFor}
use Rattle.doc_tree.proofs.Counting.{put_back_few, changed_count}
use Rattle.doc_tree.proofs.tree.DocTree.change.Goals as goal

pub make_change-requires : goal.make_change-requires
make_change-requires c = let q = c.requires.can in record { can = (q.0, q.1, q.2, subst (λ (ns : Nodes). StandsFor q.0 ns q.1) (sym c.self.view_is) q.3, q.4, q.5) }

pub overflow_add-self : goal.overflow_add-self
overflow_add-self c =
    let q = c.requires.can in let z = subst (λ (ns : Nodes). StandsFor q.0 ns q.1) (sym c.self.view_is) q.3 in
    let few = put_back_few q.0 c.self.inside.links q.1 z q.2 c.args.change q.5 q.4 in
    let i = c.self.invariant in let put = c.count_put_back-put.ensures in
    omega (arith, few, i, put)

pub overflow_sub-self : goal.overflow_sub-self
overflow_sub-self c =
    let q = c.requires.can in let z = subst (λ (ns : Nodes). StandsFor q.0 ns q.1) (sym c.self.view_is) q.3 in
    let new = c.make_change.new.links in let back = c.in_ok-back.back in
    let same = changed_count q.0 c.self.inside.links new q.1 q.2 c.args.change back z q.5 q.4 (c.in_ok-back.ensures.tree q.0 q.1 q.2 z q.4 q.5) (c.in_ok-back.ensures.inverse q.0 q.1 q.2 z q.4 q.5) in
    let i = c.self.invariant in let put = c.count_put_back-put.ensures in let taken = c.count_put_back-taken.ensures in
    omega (arith, same, i, put, taken)

pub overflow_cast-self-2 : goal.overflow_cast-self-2
overflow_cast-self-2 c =
    let q = c.requires.can in let z = subst (λ (ns : Nodes). StandsFor q.0 ns q.1) (sym c.self.view_is) q.3 in
    let few = put_back_few q.0 c.self.inside.links q.1 z q.2 c.args.change q.5 q.4 in
    let i = c.self.invariant in let put = c.count_put_back-put.ensures in
    omega (arith, few, i, put)

pub invariant_of-self-2 : goal.invariant_of-self-2
invariant_of-self-2 c =
    let q = c.requires.can in let z = subst (λ (ns : Nodes). StandsFor q.0 ns q.1) (sym c.self.view_is) q.3 in
    let new = c.make_change.new.links in let back = c.in_ok-back.back in
    let same = changed_count q.0 c.self.inside.links new q.1 q.2 c.args.change back z q.5 q.4 (c.in_ok-back.ensures.tree q.0 q.1 q.2 z q.4 q.5) (c.in_ok-back.ensures.inverse q.0 q.1 q.2 z q.4 q.5) in
    let i = c.self.invariant in let put = c.count_put_back-put.ensures in let taken = c.count_put_back-taken.ensures in
    omega (arith, same, i, put, taken)

pub returns-clause-tree : goal.returns-clause-tree
returns-clause-tree c = rw (← c.self.view_is) c.in_ok-back.ensures.tree

pub returns-clause-inverse : goal.returns-clause-inverse
returns-clause-inverse c = rw (← c.self.view_is) c.in_ok-back.ensures.inverse

pub returns-clause-nodes : goal.returns-clause-nodes
returns-clause-nodes c = rw (← c.self.view_is) c.in_ok-back.ensures.nodes
