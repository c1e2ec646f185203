use Rattle.plain_tree.specs.Putting.{with_attribute}
use Rattle.plain_tree.proofs.Keeping.{attribute_put, kept_by}
use Rattle.plain_tree.proofs.tree.Tree.put_attr.Goals as goal

pub invariant_of-self : goal.invariant_of-self
invariant_of-self c =
    let both = kept_by c.put_attribute.result c.self.inside.rows.items c.put_attribute.new.rows.items c.self.inside.next_free c.args.node
    (with_attribute c.args.attr) c.args.self.now c.self.view_is c.self.invariant.sound c.self.invariant.tree
    (λ t. attribute_put c.args.self.now c.args.node c.args.attr t c.requires.element c.requires.lacks c.requires.few c.requires.namespace)
    c.put_attribute.ensures.ok c.put_attribute.ensures.err in
    record { sound = both.0; tree = both.1 }

pub returns-clause-tree : goal.returns-clause-tree
returns-clause-tree c =
    (kept_by c.put_attribute.result c.self.inside.rows.items c.put_attribute.new.rows.items c.self.inside.next_free c.args.node
    (with_attribute c.args.attr) c.args.self.now c.self.view_is c.self.invariant.sound c.self.invariant.tree
    (λ t. attribute_put c.args.self.now c.args.node c.args.attr t c.requires.element c.requires.lacks c.requires.few c.requires.namespace)
    c.put_attribute.ensures.ok c.put_attribute.ensures.err).1
