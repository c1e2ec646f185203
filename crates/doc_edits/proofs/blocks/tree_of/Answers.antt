use Rattle.std.proofs.Common.{subst, arith}
use Rattle.tree_rows.specs.Rows.{siblings}
use Rattle.tree_rows.specs.Whole.{IsTree}
use Rattle.doc_edits.proofs.Inserting.{rows_sound}
use Rattle.doc_edits.proofs.blocks.tree_of.Goals as goal

pub overflow_cast-next_free : goal.overflow_cast-next_free
overflow_cast-next_free c =
    let r = rows_sound c.args.rows.items _ c.requires.whole c.requires.tree in let few = c.requires.tree.few in let size = r.1 in
    omega (arith, few, size)

pub overflow_add-next_free : goal.overflow_add-next_free
overflow_add-next_free c =
    let r = rows_sound c.args.rows.items _ c.requires.whole c.requires.tree in let few = c.requires.tree.few in let size = r.1 in
    omega (arith, few, size)

pub from_rows-requires-clause-sound : goal.from_rows-requires-clause-sound
from_rows-requires-clause-sound c = (rows_sound c.args.rows.items _ c.requires.whole c.requires.tree).0

pub from_rows-requires-clause-tree : goal.from_rows-requires-clause-tree
from_rows-requires-clause-tree c =
    let size = (rows_sound c.args.rows.items _ c.requires.whole c.requires.tree).1 in
    subst (λ n. IsTree (record { forest = siblings c.args.rows.items 1; next_free = n })) (omega (arith, size)) c.requires.tree
