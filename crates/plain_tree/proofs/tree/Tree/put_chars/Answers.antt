use Rattle.tree_rows.specs.Forest.{none, text}
use Rattle.plain_tree.specs.Putting.{with_last}
use Rattle.plain_tree.proofs.Keeping.{chars_put, kept_by}
use Rattle.plain_tree.proofs.tree.Tree.put_chars.Goals as goal

pub invariant_of-self : goal.invariant_of-self
invariant_of-self c =
    let both = kept_by c.put_last.result c.self.inside.rows.items c.put_last.new.rows.items c.self.inside.next_free c.args.parent
    (with_last (text c.args.node c.args.text none)) c.args.self.now c.self.view_is c.self.invariant.sound c.self.invariant.tree
    (λ t. chars_put c.args.self.now c.args.parent c.args.node c.args.text t c.requires.parent c.requires.above_0 c.requires.fresh c.requires.below_next c.requires.few)
    c.put_last.ensures.ok c.put_last.ensures.err in
    record { sound = both.0; tree = both.1 }

pub returns-clause-tree : goal.returns-clause-tree
returns-clause-tree c =
    (kept_by c.put_last.result c.self.inside.rows.items c.put_last.new.rows.items c.self.inside.next_free c.args.parent
    (with_last (text c.args.node c.args.text none)) c.args.self.now c.self.view_is c.self.invariant.sound c.self.invariant.tree
    (λ t. chars_put c.args.self.now c.args.parent c.args.node c.args.text t c.requires.parent c.requires.above_0 c.requires.fresh c.requires.below_next c.requires.few)
    c.put_last.ensures.ok c.put_last.ensures.err).1
