use Rattle.std.proofs.Common.{[], ap}
use Rattle.std.proofs.lemmas.Result.{err_from_is_err_and}
use Rattle.child_trees.specs.Lists.{get}
use Rattle.doc_nodes.proofs.Hanging.{gone_again}
use Rattle.doc_nodes.proofs.families.push_list.Goals as goal

pub returns-in_err-list-clause-keeps : goal.returns-in_err-list-clause-keeps
returns-in_err-list-clause-keeps c =
    let p = err_from_is_err_and c.from_residual.result c.from_residual.ensures.1 in
    rw p.1 (λ q live. ap (λ w. get w q) c.in_err-list.ensures.err)

pub returns-in-Ok-clause-ok : goal.returns-in-Ok-clause-ok
returns-in-Ok-clause-ok c = record { list = c.in_ok-list.list; fresh = c.in_ok-list.ensures.fresh; made = c.in_ok-list.ensures.ok; more = c.in-Ok.ensures.items }

pub drop_seq-requires : goal.drop_seq-requires
drop_seq-requires c = ([], c.in_ok-list.ensures.ok.changed)

pub returns-in-Err-clause-keeps : goal.returns-in-Err-clause-keeps
returns-in-Err-clause-keeps c = gone_again c.args.lists.now c.new_seq.new.self c.drop_seq.new.self c.in_ok-list.list c.in_ok-list.ensures.fresh c.in_ok-list.ensures.ok c.drop_seq.ensures
