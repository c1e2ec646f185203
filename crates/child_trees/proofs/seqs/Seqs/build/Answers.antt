use Rattle.std.proofs.Common.{◌≡◌, ◌<◌, length, [], Some, None, sym, ap, ◌∙◌, subst, arith}
use Rattle.std.proofs.lemmas.List.{nil_from_length}
use Rattle.std.proofs.lemmas.Result.{err_from_is_err_and}
use Rattle.std.specs.Prelude.{All}
use Rattle.std.specs.Option.{ForSome}
use Rattle.child_trees.specs.declared.leaf.Leaf.{Leaf}
use Rattle.child_trees.specs.Lists.{AreEntries, AreNew, Updates}
use Rattle.child_trees.specs.Kept.{IsSound}
use Rattle.child_trees.proofs.Building.{are_new, writes_then}
use Rattle.child_trees.proofs.Counting.{still_free, entries_many}
use Rattle.child_trees.proofs.Viewing.{seen, sound_all, get_free, not_live, no_such, kept_all, same_seen, but_one, kept_tree, updates_tree, kept_no_tree, updates_no_tree, keeps_same}
use Rattle.child_trees.proofs.seqs.Seqs.build.Goals as goal

pub invariant_of-self : goal.invariant_of-self
invariant_of-self g c =
    let M = g.M.Summary in let s = c.self.inside in let v = s.cells in let ns = s.trees.nodes in
    sound_all M.unit M.join v c.reserve.new.cells ns c.reserve.new.trees.nodes s.trees.spare c.reserve.new.trees.spare s.tops c.self.invariant c.reserve.ensures.lists c.reserve.ensures.cells c.reserve.ensures.in_use

pub returns-in_err-reserve-clause-err : goal.returns-in_err-reserve-clause-err
returns-in_err-reserve-clause-err g c =
    let M = g.M.Summary in let s = c.self.inside in let v = s.cells in let ns = s.trees.nodes in
    let p = err_from_is_err_and c.from_residual-in_err-reserve.result c.from_residual-in_err-reserve.ensures.1 in
    rw (p.1, ← c.self.view_is) (same_seen M.unit M.join v c.reserve.new.cells ns c.reserve.new.trees.nodes s.tops c.self.invariant.lists c.reserve.ensures.lists)

pub invariant_of-self-in_err-number : goal.invariant_of-self-in_err-number
invariant_of-self-in_err-number g c =
    let M = g.M.Summary in let s = c.self.inside in let v = s.cells in let ns = s.trees.nodes in
    let a = sound_all M.unit M.join v c.reserve.new.cells ns c.reserve.new.trees.nodes s.trees.spare c.reserve.new.trees.spare s.tops c.self.invariant c.reserve.ensures.lists c.reserve.ensures.cells c.reserve.ensures.in_use in
    subst (IsSound M.unit M.join c.reserve.new.cells c.reserve.new.trees.nodes c.reserve.new.trees.spare) (sym c.in_err-number.ensures.err) a

pub returns-in_err-number-clause-err : goal.returns-in_err-number-clause-err
returns-in_err-number-clause-err g c =
    let M = g.M.Summary in let s = c.self.inside in let v = s.cells in let ns = s.trees.nodes in
    let w = c.reserve.new.cells in let ms = c.reserve.new.trees.nodes in
    let p = err_from_is_err_and c.from_residual-in_err-number.result c.from_residual-in_err-number.ensures.1 in
    rw (p.1, ← c.self.view_is) (ap (seen M.unit w ms) c.in_err-number.ensures.err ∙ same_seen M.unit M.join v w ns ms s.tops c.self.invariant.lists c.reserve.ensures.lists)

pub invariant_of-self-then-count-eq0 : goal.invariant_of-self-then-count-eq0
invariant_of-self-then-count-eq0 g c =
    let M = g.M.Summary in let s = c.self.inside in let v = s.cells in let ns = s.trees.nodes in
    let w = c.reserve.new.cells in let ms = c.reserve.new.trees.nodes in let sp = c.reserve.new.trees.spare in let q = c.in_ok-number.number in
    let a = sound_all M.unit M.join v c.reserve.new.cells ns c.reserve.new.trees.nodes s.trees.spare c.reserve.new.trees.spare s.tops c.self.invariant c.reserve.ensures.lists c.reserve.ensures.cells c.reserve.ensures.in_use in
    let k = keeps_same M.unit M.join w ms (λ j. j ≡ q) in
    let u = updates_no_tree M.unit M.join w w ms ms s.tops c.add.new.self q (Some None) a.lists k c.in_ok-number.ensures.ok in
    record {
      lists = kept_no_tree M.unit M.join w w ms ms s.tops c.add.new.self q (Some None) no_such a.lists k c.in_ok-number.ensures.ok a.lists.cells;
      slots = still_free (seen M.unit w ms s.tops) (seen M.unit w ms c.add.new.self) q (length ms) (length ms) sp sp None (Some []) u (get_free M.unit M.join w ms s.tops q c.in_ok-number.ensures.fresh) a.slots (omega arith);
    }

pub returns-then-count-eq0-clause-fresh : goal.returns-then-count-eq0-clause-fresh
returns-then-count-eq0-clause-fresh g c = rw (← c.self.view_is) (
    let M = g.M.Summary in let s = c.self.inside in let v = s.cells in let ns = s.trees.nodes in
    not_live M.unit M.join v ns s.tops c.in_ok-number.number c.in_ok-number.ensures.fresh)

pub returns-then-count-eq0-clause-ok : goal.returns-then-count-eq0-clause-ok
returns-then-count-eq0-clause-ok g c = rw (← c.self.view_is) (
    let M = g.M.Summary in let s = c.self.inside in let v = s.cells in let ns = s.trees.nodes in
    let w = c.reserve.new.cells in let ms = c.reserve.new.trees.nodes in let q = c.in_ok-number.number in
    let a = kept_all M.unit M.join v w ns ms s.tops c.self.invariant.lists c.reserve.ensures.lists c.reserve.ensures.cells in
    let eq = same_seen M.unit M.join v w ns ms s.tops c.self.invariant.lists c.reserve.ensures.lists in
    let empty = nil_from_length c.args.leaves.items (omega (arith, c.if-count-eq0.true, c.len-count.ensures)) in
    let u = updates_no_tree M.unit M.join w w ms ms s.tops c.add.new.self q (Some None) a (keeps_same M.unit M.join w ms (λ j. j ≡ q)) c.in_ok-number.ensures.ok in (
      [],
      subst (λ ls. AreEntries (M.unit v.shape) (M.leaf c.args.source.now) ls []) (sym empty) tt,
      record { absent = λ p l. absurd (omega (arith, l)); once = λ p k l m e. absurd (omega (arith, l)) },
      subst (λ z. Updates z (seen M.unit w ms c.add.new.self) q (Some [])) eq u,
    ))

pub build_tree-top-requires-clause-fits : goal.build_tree-top-requires-clause-fits
build_tree-top-requires-clause-fits g c =
    let M = g.M.Summary in let source = c.args.source.now in
    let fits = rw (← c.self.view_is) at c.requires in
    subst (All (λ (l : Leaf g.row.M-Letter.Denot). ForSome l.letter (M.fits c.reserve.new.cells.shape source))) (sym c.as_slice-2.ensures.value)
    (subst (λ h. All (λ (l : Leaf g.row.M-Letter.Denot). ForSome l.letter (M.fits h source)) c.args.leaves.items) (sym c.reserve.ensures.lists.shape) fits)

pub invariant_of-self-2 : goal.invariant_of-self-2
invariant_of-self-2 g c =
    let M = g.M.Summary in let s = c.self.inside in let v = s.cells in let ns = s.trees.nodes in
    let w = c.reserve.new.cells in let ms = c.reserve.new.trees.nodes in let sp = c.reserve.new.trees.spare in let q = c.in_ok-number.number in
    let x = c.build_tree-top.new.cells in let ls = c.build_tree-top.new.trees.nodes in
    let a = sound_all M.unit M.join v c.reserve.new.cells ns c.reserve.new.trees.nodes s.trees.spare c.reserve.new.trees.spare s.tops c.self.invariant c.reserve.ensures.lists c.reserve.ensures.cells c.reserve.ensures.in_use in
    let b = c.build_tree-top.ensures in let xs = b.list.0 in
    let t = writes_then s.tops c.add.new.self c.set.new.self q (Some None) (Some (Some c.build_tree-top.result)) c.in_ok-number.ensures.ok c.set.ensures in
    let lists = but_one M.unit M.join w x ms ls q b.lists in
    let u = updates_tree M.unit M.join w x ms ls s.tops c.set.new.self q c.build_tree-top.result xs a.lists lists t b.list.3 in
    let many = entries_many (M.unit w.shape) (M.leaf c.args.source.now) c.as_slice-2.result.now xs b.list.1 in
    let some : 0 < length c.as_slice-2.result.now = omega (arith, c.if-count-eq0.false, c.len-count.ensures, ap length c.as_slice-2.ensures.value) in
    record {
      lists = kept_tree M.unit M.join w x ms ls s.tops c.set.new.self q c.build_tree-top.result xs a.lists lists t b.list.3 b.cells;
      slots = still_free (seen M.unit w ms s.tops) (seen M.unit x ls c.set.new.self) q (length ms) (length ls) sp c.build_tree-top.new.trees.spare None (Some xs) u (get_free M.unit M.join w ms s.tops q c.in_ok-number.ensures.fresh) a.slots (omega (arith, b.slots.0, b.slots.1, many, some));
    }

pub returns-clause-fresh : goal.returns-clause-fresh
returns-clause-fresh g c = rw (← c.self.view_is) (
    let M = g.M.Summary in let s = c.self.inside in let v = s.cells in let ns = s.trees.nodes in
    not_live M.unit M.join v ns s.tops c.in_ok-number.number c.in_ok-number.ensures.fresh)

pub returns-clause-ok : goal.returns-clause-ok
returns-clause-ok g c = rw (← c.self.view_is) (
    let M = g.M.Summary in let s = c.self.inside in let v = s.cells in let ns = s.trees.nodes in
    let w = c.reserve.new.cells in let ms = c.reserve.new.trees.nodes in let q = c.in_ok-number.number in
    let x = c.build_tree-top.new.cells in let ls = c.build_tree-top.new.trees.nodes in
    let a = kept_all M.unit M.join v w ns ms s.tops c.self.invariant.lists c.reserve.ensures.lists c.reserve.ensures.cells in
    let eq = same_seen M.unit M.join v w ns ms s.tops c.self.invariant.lists c.reserve.ensures.lists in
    let b = c.build_tree-top.ensures in let xs = b.list.0 in
    let t = writes_then s.tops c.add.new.self c.set.new.self q (Some None) (Some (Some c.build_tree-top.result)) c.in_ok-number.ensures.ok c.set.ensures in
    let u = updates_tree M.unit M.join w x ms ls s.tops c.set.new.self q c.build_tree-top.result xs a (but_one M.unit M.join w x ms ls q b.lists) t b.list.3 in (
      xs,
      subst (λ h. AreEntries (M.unit h) (M.leaf c.args.source.now) c.args.leaves.items xs) c.reserve.ensures.lists.shape
          (subst (λ ys. AreEntries (M.unit w.shape) (M.leaf c.args.source.now) ys xs) c.as_slice-2.ensures.value b.list.1),
      subst (λ z. AreNew z xs) eq (are_new M.unit M.join w ms s.tops xs a b.list.2),
      subst (λ z. Updates z (seen M.unit x ls c.set.new.self) q (Some xs)) eq u,
    ))
