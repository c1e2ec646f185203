use Rattle.std.proofs.Common.{ap, sym, ◌∙◌, Some}
use Rattle.doc_nodes.specs.Linked.{list_or, entries}
use Rattle.doc_nodes.proofs.Among.{has-at}
use Rattle.doc_nodes.proofs.Ordered.{at_default, met, one_read, all_read}
use Rattle.doc_nodes.proofs.links.children_in.Goals as goal

pub child_of-requires : goal.child_of-requires
child_of-requires c =
    let v = c.args.lists.now in let live = c.requires.live in let here = live.1 ∙ ap Some (sym (ap list_or live.1)) in
    let items = c.deref-item-items.result.now in let k = c.loop-item.item-index in
    let m = met v c.args.list k c.item-item.result (entries v c.args.list) items here (c.deref-item-items.ensures.value ∙ c.in_ok-items.ensures (entries v c.args.list) here) c.loop-item-test.true (c.item-item.is ∙ at_default items k c.item-item.result 0 c.loop-item-test.true) in
    (m.entry, m.is, c.requires.full m.entry (has-at (entries v c.args.list) k m.entry m.at.within m.at.at))

pub loop-item-preserved : goal.loop-item-preserved
loop-item-preserved c =
    let v = c.args.lists.now in let live = c.requires.live in let here = live.1 ∙ ap Some (sym (ap list_or live.1)) in
    let items = c.deref-item-items.result.now in let k = c.loop-item.item-index in
    let m = met v c.args.list k c.item-item.result (entries v c.args.list) items here (c.deref-item-items.ensures.value ∙ c.in_ok-items.ensures (entries v c.args.list) here) c.loop-item-test.true (c.item-item.is ∙ at_default items k c.item-item.result 0 c.loop-item-test.true) in
    c.in_ok-push.ensures.items ∙ one_read (entries v c.args.list) k c.child_of.result m.entry c.loop-item.children.items m.at c.loop-item.invariant (c.child_of.ensures m.entry m.is)

pub returns : goal.returns
returns c =
    let v = c.args.lists.now in let live = c.requires.live in let here = live.1 ∙ ap Some (sym (ap list_or live.1)) in
    all_read (entries v c.args.list) c.loop-item.item-index c.deref-item-items.result.now c.loop-item.children.items (c.deref-item-items.ensures.value ∙ c.in_ok-items.ensures (entries v c.args.list) here) c.loop-item.invariant c.loop-item-test.false
