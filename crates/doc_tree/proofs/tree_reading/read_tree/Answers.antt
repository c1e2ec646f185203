use Rattle.std.proofs.Common.{sym, ◌∙◌, subst}
use Rattle.tree_rows.specs.Whole.{IsTree}
use Rattle.doc_tree.proofs.Below.{root_of, all_rows, tree_is, sound_rows}
use Rattle.doc_tree.proofs.tree_reading.read_tree.Goals as goal

pub from_rows-requires-clause-sound : goal.from_rows-requires-clause-sound
from_rows-requires-clause-sound c =
    let q = c.requires.stands in let n = c.args.names.now in let l = c.args.links.now in let r = root_of n l q.0 q.1 in
    sound_rows q.0 c.read_below.new.rows.items q.1.tree
    (all_rows n l q.0 r c.new-rows.result.items c.push.new.self.items c.read_below.new.rows.items c.in_ok-read_row.field-0 c.new-rows.ensures.items c.in_ok-push.ensures.items (c.in_ok-read_row.ensures r.it r.is) (c.in_ok-read_below.ensures r.below r.under))

pub from_rows-requires-clause-tree : goal.from_rows-requires-clause-tree
from_rows-requires-clause-tree c =
    let q = c.requires.stands in let n = c.args.names.now in let l = c.args.links.now in let r = root_of n l q.0 q.1 in
    let rows = all_rows n l q.0 r c.new-rows.result.items c.push.new.self.items c.read_below.new.rows.items c.in_ok-read_row.field-0 c.new-rows.ensures.items c.in_ok-push.ensures.items (c.in_ok-read_row.ensures r.it r.is) (c.in_ok-read_below.ensures r.below r.under) in
    subst IsTree (sym (tree_is q.0 c.read_below.new.rows.items c.next_free.result rows (c.next_free.ensures.next ∙ q.1.next))) q.1.tree

pub returns-clause-tree : goal.returns-clause-tree
returns-clause-tree c = λ d z.
    let n = c.args.names.now in let l = c.args.links.now in let r = root_of n l d z in
    let rows = all_rows n l d r c.new-rows.result.items c.push.new.self.items c.read_below.new.rows.items c.in_ok-read_row.field-0 c.new-rows.ensures.items c.in_ok-push.ensures.items (c.in_ok-read_row.ensures r.it r.is) (c.in_ok-read_below.ensures r.below r.under) in
    c.from_rows.ensures ∙ tree_is d c.read_below.new.rows.items c.next_free.result rows (c.next_free.ensures.next ∙ z.next)
