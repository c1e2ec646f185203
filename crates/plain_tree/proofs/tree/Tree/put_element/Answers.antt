use Rattle.std.proofs.Common.{[]}
use Rattle.tree_rows.specs.Forest.{none, element}
use Rattle.plain_tree.specs.Putting.{with_last}
use Rattle.plain_tree.proofs.Keeping.{element_put, kept_by}
use Rattle.plain_tree.proofs.tree.Tree.put_element.Goals as goal

pub invariant_of-self : goal.invariant_of-self
invariant_of-self c =
    let both = kept_by c.put_last.result c.self.inside.rows.items c.put_last.new.rows.items c.self.inside.next_free c.args.parent
    (with_last (element c.args.node c.args.name [] [] none none)) c.args.self.now c.self.view_is c.self.invariant.sound c.self.invariant.tree
    (λ t. element_put c.args.self.now c.args.parent c.args.node c.args.name t c.requires.parent c.requires.above_0 c.requires.fresh c.requires.below_next
    c.requires.few c.requires.shallow c.requires.namespace)
    c.put_last.ensures.ok c.put_last.ensures.err in
    record { sound = both.0; tree = both.1 }

pub returns-clause-tree : goal.returns-clause-tree
returns-clause-tree c =
    (kept_by c.put_last.result c.self.inside.rows.items c.put_last.new.rows.items c.self.inside.next_free c.args.parent
    (with_last (element c.args.node c.args.name [] [] none none)) c.args.self.now c.self.view_is c.self.invariant.sound c.self.invariant.tree
    (λ t. element_put c.args.self.now c.args.parent c.args.node c.args.name t c.requires.parent c.requires.above_0 c.requires.fresh c.requires.below_next
    c.requires.few c.requires.shallow c.requires.namespace)
    c.put_last.ensures.ok c.put_last.ensures.err).1
