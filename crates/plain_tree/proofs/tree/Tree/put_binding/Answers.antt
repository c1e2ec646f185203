use Rattle.plain_tree.specs.Putting.{with_binding}
use Rattle.plain_tree.proofs.Keeping.{binding_put, kept_by}
use Rattle.plain_tree.proofs.tree.Tree.put_binding.Goals as goal

pub invariant_of-self : goal.invariant_of-self
invariant_of-self c =
    let both = kept_by c.put_binding.result c.self.inside.rows.items c.put_binding.new.rows.items c.self.inside.next_free c.args.node
    (with_binding c.args.binding) c.args.self.now c.self.view_is c.self.invariant.sound c.self.invariant.tree
    (λ t. binding_put c.args.self.now c.args.node c.args.binding t c.requires.element c.requires.lacks c.requires.few)
    c.put_binding.ensures.ok c.put_binding.ensures.err in
    record { sound = both.0; tree = both.1 }

pub returns-clause-tree : goal.returns-clause-tree
returns-clause-tree c =
    (kept_by c.put_binding.result c.self.inside.rows.items c.put_binding.new.rows.items c.self.inside.next_free c.args.node
    (with_binding c.args.binding) c.args.self.now c.self.view_is c.self.invariant.sound c.self.invariant.tree
    (λ t. binding_put c.args.self.now c.args.node c.args.binding t c.requires.element c.requires.lacks c.requires.few)
    c.put_binding.ensures.ok c.put_binding.ensures.err).1
