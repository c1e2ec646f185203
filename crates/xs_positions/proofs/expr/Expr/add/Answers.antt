-- The new node's parts come before it, and its tree is over those before it.
use Rattle.std.proofs.Common.{◌∙◌, sym, ap, length, ◌++◌, ◌∷◌, []}
use Rattle.xs_positions.specs.Nodes.{trees_of, tree_of}
use Rattle.xs_positions.proofs.Growing.{ordered_push, trees_of-push, length-trees_of}
use Rattle.xs_positions.proofs.expr.Expr.add.Goals as goal

pub invariant_of-self-2 : goal.invariant_of-self-2
invariant_of-self-2 c =
    ordered_push c.self.inside.nodes.items c.args.node c.args.self.now c.push.new.self.items c.self.invariant c.requires c.self.view_is c.in_ok-push.ensures.items

pub returns-clause-id : goal.returns-clause-id
returns-clause-id c = c.len-2.ensures ∙ (c.self.inside.nodes.ok.0 ∙ (sym (length-trees_of c.self.inside.nodes.items) ∙ ap length c.self.view_is))

pub returns-clause-ok : goal.returns-clause-ok
returns-clause-ok c =
    ap trees_of c.in_ok-push.ensures.items ∙ (trees_of-push c.self.inside.nodes.items c.args.node ∙
    ap (λ ts. ts ++ tree_of ts c.args.node ∷ []) c.self.view_is)
