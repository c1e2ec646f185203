use Rattle.std.proofs.Common.{[], refl}
use Rattle.doc_nodes.proofs.Hanging.{still_empty, dropped_more, dropped_all}
use Rattle.doc_nodes.proofs.families.drop_lists.Goals as goal

pub loop-one-init : goal.loop-one-init
loop-one-init c = λ q l. refl

pub drop_seq-requires : goal.drop_seq-requires
drop_seq-requires c =
    ([], still_empty c.args.lists.now c.loop-one.lists c.args.hung.now c.loop-one.one-index c.one-item.result c.loop-one.invariant c.loop-one-test.true c.one-item.is c.requires.own c.requires.apart)

pub loop-one-preserved : goal.loop-one-preserved
loop-one-preserved c =
    dropped_more c.args.lists.now c.loop-one.lists c.args.hung.now c.loop-one.one-index c.one-item.result c.loop-one.invariant c.loop-one-test.true c.one-item.is c.drop_seq.new.self c.drop_seq.ensures

pub returns : goal.returns
returns c = λ q l. dropped_all c.args.lists.now c.loop-one.lists c.args.hung.now c.loop-one.one-index c.loop-one.invariant c.loop-one-test.false q l
