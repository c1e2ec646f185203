use Rattle.std.proofs.Common.{get_or, ap, refl}
use Rattle.std.proofs.lemmas.Result.{err_from_is_err_and}
use Rattle.child_trees.specs.Lists.{get}
use Rattle.doc_nodes.proofs.Hanging.{any_fits, made_still, keeps_dropped, hangs}
use Rattle.doc_nodes.proofs.families.hang_all.Goals as goal

pub returns-in_err-leaves-clause-err : goal.returns-in_err-leaves-clause-err
returns-in_err-leaves-clause-err c =
    let p = err_from_is_err_and c.from_residual.result c.from_residual.ensures.1 in
    rw p.1 (λ q live. refl)

pub build-requires : goal.build-requires
build-requires c = λ k d l. any_fits (get_or c.in_ok-leaves.leaves.items k d).letter

pub own_lists-requires : goal.own_lists-requires
own_lists-requires c = let e = c.in_ok-list.ensures in (e.ok.0, e.ok.3.changed)

pub returns-in_err-list-clause-err : goal.returns-in_err-list-clause-err
returns-in_err-list-clause-err c =
    let p = err_from_is_err_and c.from_residual-in_err-list.result c.from_residual-in_err-list.ensures.1 in
    rw p.1 (λ q live. ap (λ w. get w q) c.in_err-list.ensures.err)

pub returns-in-Ok-clause-ok : goal.returns-in-Ok-clause-ok
returns-in-Ok-clause-ok c =
    let e = c.in_ok-list.ensures in
    hangs c.args.lists.now c.build.new.self c.own_lists.new.lists c.in_ok-list.list e.ok.0 e.fresh e.ok.3 c.in-Ok.ensures.keeps c.args.children.now c.in_ok-leaves.leaves.items
    (record { list = c.in_ok-list.list; hung = c.in-Ok.hung }) refl c.in_ok-leaves.ensures e.ok.1 c.in-Ok.ensures.ok

pub drop_seq-requires : goal.drop_seq-requires
drop_seq-requires c =
    let e = c.in_ok-list.ensures in
    (e.ok.0, made_still c.args.lists.now c.build.new.self c.own_lists.new.lists c.in_ok-list.list e.ok.0 e.fresh e.ok.3 c.in-Err.ensures.keeps)

pub returns-in-Err-clause-err : goal.returns-in-Err-clause-err
returns-in-Err-clause-err c =
    let e = c.in_ok-list.ensures in
    keeps_dropped c.args.lists.now c.build.new.self c.own_lists.new.lists c.in_ok-list.list e.ok.0 e.fresh e.ok.3 c.in-Err.ensures.keeps c.drop_seq.new.self c.drop_seq.ensures
