use Rattle.std.proofs.Common.{◌∙◌, refl}
use Rattle.doc_nodes.proofs.Hanging.{own_begun, own_more, own_kept, own_done}
use Rattle.doc_nodes.proofs.Ordered.{at_default}
use Rattle.doc_nodes.proofs.families.push_lists.Goals as goal

pub loop-item-init : goal.loop-item-init
loop-item-init c = own_begun c.args.lists.now c.args.items.now c.args.hung.now.items c.requires

pub loop-item-preserved : goal.loop-item-preserved
loop-item-preserved c =
    let a = c.in_ok-push_list.ensures.ok in let k = c.loop-item.item-index in
    own_more c.args.lists.now c.loop-item.lists c.push_list.new.lists c.args.items.now k c.loop-item.hung.items c.push_list.new.hung.items (record { list = a.list; item = c.item-item.result })
    c.loop-item.invariant c.loop-item-test.true (c.item-item.is ∙ at_default c.args.items.now k c.item-item.result 0 c.loop-item-test.true) a.fresh a.made a.more

pub returns-in_err-push_list-clause-own : goal.returns-in_err-push_list-clause-own
returns-in_err-push_list-clause-own c =
    (own_kept c.args.lists.now c.loop-item.lists c.push_list.new.lists c.args.items.now c.loop-item.item-index c.loop-item.hung.items c.push_list.new.hung.items c.loop-item.invariant c.in_err-push_list.ensures.keeps c.in_err-push_list.ensures.same).own.lists

pub returns-in_err-push_list-clause-keeps : goal.returns-in_err-push_list-clause-keeps
returns-in_err-push_list-clause-keeps c =
    (own_kept c.args.lists.now c.loop-item.lists c.push_list.new.lists c.args.items.now c.loop-item.item-index c.loop-item.hung.items c.push_list.new.hung.items c.loop-item.invariant c.in_err-push_list.ensures.keeps c.in_err-push_list.ensures.same).keeps

pub returns-clause-ok : goal.returns-clause-ok
returns-clause-ok c = own_done c.args.lists.now c.loop-item.lists c.args.items.now c.args.items.now c.loop-item.item-index c.loop-item.hung.items c.loop-item.invariant c.loop-item-test.false refl

pub returns-clause-own : goal.returns-clause-own
returns-clause-own c = c.loop-item.invariant.own.lists

pub returns-clause-keeps : goal.returns-clause-keeps
returns-clause-keeps c = c.loop-item.invariant.keeps
