use Rattle.std.proofs.Common.{◌≤◌, [], length, sym, ap, ◌∙◌, subst}
use Rattle.std.proofs.lemmas.Result.{err_from_is_err_and}
use Rattle.child_trees.specs.Lists.{get, Updates}
use Rattle.std.specs.Prelude.{None}
use Rattle.doc_nodes.specs.Linked.{list_or}
use Rattle.doc_nodes.proofs.Making.{still_live, hangs_more, keeps_lists}
use Rattle.doc_nodes.proofs.links.hang.Goals as goal

pub returns-in_err-list-clause-err : goal.returns-in_err-list-clause-err
returns-in_err-list-clause-err c =
    let p = err_from_is_err_and c.from_residual.result c.from_residual.ensures.1 in
    rw p.1 (λ q live. ap (λ w. get w q) c.in_err-list.ensures.err)

pub insert-requires-clause-live : goal.insert-requires-clause-live
insert-requires-clause-live c =
    let e = c.in_ok-list.ensures in let live = c.requires.live in
    (live.0, still_live c.args.lists.now c.new_seq.new.self c.args.order c.in_ok-list.list e.fresh e.ok live ∙ live.1)

pub insert-requires-clause-place : goal.insert-requires-clause-place
insert-requires-clause-place c = λ xs h.
    let e = c.in_ok-list.ensures in
    let still = still_live c.args.lists.now c.new_seq.new.self c.args.order c.in_ok-list.list e.fresh e.ok c.requires.live in
    subst (λ n. c.args.place ≤ n) (ap (λ l. length (list_or l)) (sym still ∙ h)) c.requires.place

pub returns-in-Ok-clause-ok : goal.returns-in-Ok-clause-ok
returns-in-Ok-clause-ok c =
    let e = c.in_ok-list.ensures in
    hangs_more c.args.lists.now c.new_seq.new.self c.insert.new.self c.args.order c.args.place c.args.child (record { list = c.in_ok-list.list; item = c.in-Ok.item }) e.fresh e.ok c.requires.live c.in-Ok.ensures.ok

pub drop_seq-requires : goal.drop_seq-requires
drop_seq-requires c = ([], ap (λ w. get w c.in_ok-list.list) c.in-Err.ensures.err ∙ c.in_ok-list.ensures.ok.changed)

pub returns-clause-err : goal.returns-clause-err
returns-clause-err c =
    let e = c.in_ok-list.ensures in
    keeps_lists c.args.lists.now c.new_seq.new.self c.drop_seq.new.self c.in_ok-list.list e.fresh e.ok
    (subst (λ w. Updates w c.drop_seq.new.self c.in_ok-list.list None) c.in-Err.ensures.err c.drop_seq.ensures)
