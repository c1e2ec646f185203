use Rattle.tree_edits.proofs.Testing.{edit_tested}
use Rattle.tree_edits.specs.Spots.{tree_of}
use Rattle.tree_edits.proofs.apply.edit_rows.Goals as goal

pub returns-clause-ok : goal.returns-clause-ok
returns-clause-ok c = rw (← edit_tested (tree_of c.args.rows.now.items c.args.next_free) c.args.edit.now) c.change_rows.ensures.ok

pub returns-clause-err : goal.returns-clause-err
returns-clause-err c = rw (← edit_tested (tree_of c.args.rows.now.items c.args.next_free) c.args.edit.now) c.change_rows.ensures.err
