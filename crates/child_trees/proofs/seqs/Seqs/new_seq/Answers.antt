use Rattle.std.proofs.Common.{◌≡◌, [], length, arith, Some, None, sym, ap, subst}
use Rattle.std.proofs.lemmas.Result.{err_from_is_err_and}
use Rattle.child_trees.specs.Kept.{IsSound}
use Rattle.child_trees.proofs.Counting.{still_free}
use Rattle.child_trees.proofs.Viewing.{seen, get_free, not_live, no_such, kept_no_tree, updates_no_tree, keeps_same}
use Rattle.child_trees.proofs.seqs.Seqs.new_seq.Goals as goal

pub invariant_of-self : goal.invariant_of-self
invariant_of-self g c =
    let M = g.M.Summary in let s = c.self.inside in let v = s.cells in let ns = s.trees.nodes in
    subst (IsSound M.unit M.join v ns s.trees.spare) (sym c.in_err-number.ensures.err) c.self.invariant

pub returns-in_err-number-clause-err : goal.returns-in_err-number-clause-err
returns-in_err-number-clause-err g c =
    let M = g.M.Summary in let s = c.self.inside in let v = s.cells in let ns = s.trees.nodes in
    let p = err_from_is_err_and c.from_residual.result c.from_residual.ensures.1 in
    rw (p.1, ← c.self.view_is) (ap (seen M.unit v ns) c.in_err-number.ensures.err)

pub invariant_of-self-2 : goal.invariant_of-self-2
invariant_of-self-2 g c =
    let M = g.M.Summary in let s = c.self.inside in let v = s.cells in let ns = s.trees.nodes in
    let q = c.in_ok-number.number in let a = c.self.invariant.lists in let k = keeps_same M.unit M.join v ns (λ j. j ≡ q) in
    let u = updates_no_tree M.unit M.join v v ns ns s.tops c.add.new.self q (Some None) a k c.in_ok-number.ensures.ok in
    record {
      lists = kept_no_tree M.unit M.join v v ns ns s.tops c.add.new.self q (Some None) no_such a k c.in_ok-number.ensures.ok a.cells;
      slots = still_free (seen M.unit v ns s.tops) (seen M.unit v ns c.add.new.self) q (length ns) (length ns) s.trees.spare s.trees.spare None (Some []) u (get_free M.unit M.join v ns s.tops q c.in_ok-number.ensures.fresh) c.self.invariant.slots (omega arith);
    }

pub returns-clause-fresh : goal.returns-clause-fresh
returns-clause-fresh g c = rw (← c.self.view_is) (
    let M = g.M.Summary in let s = c.self.inside in let v = s.cells in let ns = s.trees.nodes in
    not_live M.unit M.join v ns s.tops c.in_ok-number.number c.in_ok-number.ensures.fresh)

pub returns-clause-ok : goal.returns-clause-ok
returns-clause-ok g c = rw (← c.self.view_is) (
    let M = g.M.Summary in let s = c.self.inside in let v = s.cells in let ns = s.trees.nodes in
    updates_no_tree M.unit M.join v v ns ns s.tops c.add.new.self c.in_ok-number.number (Some None) c.self.invariant.lists (keeps_same M.unit M.join v ns (λ j. j ≡ c.in_ok-number.number)) c.in_ok-number.ensures.ok)
