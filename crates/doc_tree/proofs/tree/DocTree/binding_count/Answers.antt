use Rattle.std.proofs.Common.{length, refl, sym, ap, arith}
use Rattle.std.proofs.lemmas.List.{length-map}
use Rattle.doc_nodes.specs.Nodes.{node}
use Rattle.doc_changes.specs.Held as held
use Rattle.doc_changes.specs.Stands.{binding_of}
use Rattle.doc_tree.proofs.Answering.{bindings_are, few_bindings, by_bindings}
use Rattle.doc_tree.proofs.tree.DocTree.binding_count.Goals as goal

pub returns-in-None-clause-tree : goal.returns-in-None-clause-tree
returns-in-None-clause-tree c = rw (← c.self.view_is) (λ t d z.
    let ns = c.self.inside.links in let n = c.args.node in
    let e = ap length (bindings_are t ns d z n (node ns n) refl) in
    let l = length-map (held.bindings_at ns n) (binding_of t) in
    let none = ap length (by_bindings (node ns n) _ (sym c.in-None.ensures.content)) in
    omega (arith, e, l, none))

pub returns-in-Some-clause-tree : goal.returns-in-Some-clause-tree
returns-in-Some-clause-tree c = rw (← c.self.view_is) (λ t d z.
    let ns = c.self.inside.links in let n = c.args.node in
    let e = ap length (bindings_are t ns d z n (node ns n) refl) in
    let l = length-map (held.bindings_at ns n) (binding_of t) in
    let own = ap length (by_bindings (node ns n) _ (sym c.in-Some.ensures.content)) in
    let few = few_bindings d.next_free n d.forest z.tree.nodes in
    let is = c.count_bindings.ensures (omega (arith, e, l, own, few)) in
    omega (arith, e, l, own, is))
