use Rattle.std.proofs.Common.{◌≡◌, length, Some, None, ap, ◌∙◌, arith}
use Rattle.leaf_trees.proofs.Held.{positive}
use Rattle.child_trees.proofs.Counting.{still_free}
use Rattle.child_trees.proofs.Reading.{no_top}
use Rattle.child_trees.proofs.Viewing.{seen, rooted, none_is, live_top, none_some, tree_gone, kept_no_tree, updates_no_tree, keeps_same}
use Rattle.child_trees.proofs.seqs.Seqs.drop_seq.Goals as goal

pub top-top-requires : goal.top-top-requires
top-top-requires g c =
    let M = g.M.Summary in let s = c.self.inside in let v = s.cells in let ns = s.trees.nodes in let n = c.seq.inside.number in
    let r = rw (← c.self.view_is, ← c.seq.view_is) at c.requires in
    let w = live_top M.unit M.join v ns s.tops n r.0 r.1 in
    (w.0, w.1)

pub give-requires : goal.give-requires
give-requires g c =
    let M = g.M.Summary in let s = c.self.inside in let v = s.cells in let ns = s.trees.nodes in let n = c.seq.inside.number in
    let r = rw (← c.self.view_is, ← c.seq.view_is) at c.requires in
    let w = live_top M.unit M.join v ns s.tops n r.0 r.1 in
    (w.0, w.1)

pub drop_tree-requires : goal.drop_tree-requires
drop_tree-requires g c =
    let M = g.M.Summary in let s = c.self.inside in let v = s.cells in let ns = s.trees.nodes in let n = c.seq.inside.number in
    let k = c.self.invariant.lists.kept n c.in-Some.top (c.top-top.ensures ∙ ap Some c.in-Some.is) in
    (n, k.0, k.1.tree)

pub invariant_of-self : goal.invariant_of-self
invariant_of-self g c =
    let M = g.M.Summary in let s = c.self.inside in let v = s.cells in let ns = s.trees.nodes in let n = c.seq.inside.number in
    let r = rw (← c.self.view_is, ← c.seq.view_is) at c.requires in let a = c.self.invariant.lists in
    let R = rooted M.unit M.join v ns s.tops a n c.in-Some.top r.0 (c.top-top.ensures ∙ ap Some c.in-Some.is) r.1 in
    let ms = c.drop_tree.new.self.nodes in let e = c.drop_tree.ensures in
    let gone = tree_gone M.unit M.join v ns ms n (e.others n R.tree R.kept.tree) in
    let u = updates_no_tree M.unit M.join v v ns ms s.tops c.give.new.self n None a gone c.give.ensures in
    let freed = e.spare n R.tree R.kept.tree in
    record {
      lists = kept_no_tree M.unit M.join v v ns ms s.tops c.give.new.self n None (λ top. none_some (Some top)) a gone c.give.ensures (omega (arith, e.len, a.cells));
      slots = still_free (seen M.unit v ns s.tops) (seen M.unit v ms c.give.new.self) n (length ns) (length ms) s.trees.spare c.drop_tree.new.self.spare (Some r.0) None u r.1 c.self.invariant.slots (omega (arith, e.len, freed, R.size_is, positive R.tree));
    }

pub invariant_of-self-in_default : goal.invariant_of-self-in_default
invariant_of-self-in_default g c =
    let M = g.M.Summary in let s = c.self.inside in let v = s.cells in let ns = s.trees.nodes in let n = c.seq.inside.number in
    let r = rw (← c.self.view_is, ← c.seq.view_is) at c.requires in let a = c.self.invariant.lists in
    let k = keeps_same M.unit M.join v ns (λ j. j ≡ n) in
    let u = updates_no_tree M.unit M.join v v ns ns s.tops c.give.new.self n None a k c.give.ensures in
    let empty = no_top M.unit M.join v ns s.tops n r.0 (c.top-top.ensures ∙ ap Some (none_is c.top-top.result c.in_default.not-Some)) r.1 in
    record {
      lists = kept_no_tree M.unit M.join v v ns ns s.tops c.give.new.self n None (λ top. none_some (Some top)) a k c.give.ensures a.cells;
      slots = still_free (seen M.unit v ns s.tops) (seen M.unit v ns c.give.new.self) n (length ns) (length ns) s.trees.spare s.trees.spare (Some r.0) None u r.1 c.self.invariant.slots (omega (arith, ap length empty));
    }

pub returns-in-Some : goal.returns-in-Some
returns-in-Some g c = rw (← c.self.view_is, ← c.seq.view_is) (
    let M = g.M.Summary in let s = c.self.inside in let v = s.cells in let ns = s.trees.nodes in let n = c.seq.inside.number in
    let k = c.self.invariant.lists.kept n c.in-Some.top (c.top-top.ensures ∙ ap Some c.in-Some.is) in
    let gone = tree_gone M.unit M.join v ns c.drop_tree.new.self.nodes n (c.drop_tree.ensures.others n k.0 k.1.tree) in
    updates_no_tree M.unit M.join v v ns c.drop_tree.new.self.nodes s.tops c.give.new.self n None c.self.invariant.lists gone c.give.ensures)

pub returns-in_default : goal.returns-in_default
returns-in_default g c = rw (← c.self.view_is, ← c.seq.view_is) (
    let M = g.M.Summary in let s = c.self.inside in let v = s.cells in let ns = s.trees.nodes in let n = c.seq.inside.number in
    updates_no_tree M.unit M.join v v ns ns s.tops c.give.new.self n None c.self.invariant.lists (keeps_same M.unit M.join v ns (λ j. j ≡ n)) c.give.ensures)
