use Rattle.std.proofs.Common.{subst}
use Rattle.tree_edits.specs.Keeping.{GivesNew}
use Rattle.tree_edits.specs.Spots.{tree_of}
use Rattle.tree_edits.proofs.Testing.{edited_keeps}
use Rattle.plain_tree.proofs.tree.Tree.apply_edit.Goals as goal

pub invariant_of-self-2 : goal.invariant_of-self-2
invariant_of-self-2 c =
    let keeps = edited_keeps (tree_of c.self.inside.rows.items c.self.inside.next_free) c.args.edit.now (tree_of c.edit_rows.new.rows.items c.in_ok-self-inside.field-0)
    c.self.invariant.tree c.in_ok-self-inside.ensures.ok in
    record { sound = c.in_ok-self-inside.ensures.sound; tree = keeps.tree }

pub returns-clause-tree : goal.returns-clause-tree
returns-clause-tree c =
    (edited_keeps (tree_of c.self.inside.rows.items c.self.inside.next_free) c.args.edit.now (tree_of c.edit_rows.new.rows.items c.in_ok-self-inside.field-0)
    c.self.invariant.tree c.in_ok-self-inside.ensures.ok).tree

pub returns-clause-numbers : goal.returns-clause-numbers
returns-clause-numbers c =
    subst (λ d. GivesNew d (tree_of c.edit_rows.new.rows.items c.in_ok-self-inside.field-0)) c.self.view_is
    (edited_keeps (tree_of c.self.inside.rows.items c.self.inside.next_free) c.args.edit.now (tree_of c.edit_rows.new.rows.items c.in_ok-self-inside.field-0)
    c.self.invariant.tree c.in_ok-self-inside.ensures.ok).numbers
