use Rattle.std.proofs.Common.{ap, sym, ◌∙◌, Some, ◌≡◌}
use Rattle.std.specs.Prelude.{filter}
use Rattle.child_trees.specs.Lists.{Entry, get}
use Rattle.doc_nodes.specs.declared.firsts.First.{First}
use Rattle.doc_nodes.specs.Linked.{list_or, entries, number_of}
use Rattle.doc_nodes.proofs.Elements.{passed, none-at}
use Rattle.doc_nodes.proofs.links.nth_element.Goals as goal

pub returns-in-None : goal.returns-in-None
returns-in-None c =
    let v = c.args.lists.now in let live = c.requires.live in
    let here : get v c.args.list ≡ Some (entries v c.args.list) = live.1 ∙ ap Some (sym (ap list_or live.1)) in
    sym (none-at (λ (e : Entry First). e.item) number_of (filter (λ (e : Entry First). e.marked) (entries v c.args.list)) c.args.place (sym (c.in-None.ensures (entries v c.args.list) here)))

pub child_of-requires : goal.child_of-requires
child_of-requires c =
    let v = c.args.lists.now in let live = c.requires.live in
    let here : get v c.args.list ≡ Some (entries v c.args.list) = live.1 ∙ ap Some (sym (ap list_or live.1)) in
    let p = passed v c.args.list (λ (e : Entry First). e.marked) (entries v c.args.list) c.args.place c.in-Some.item here (sym (c.in-Some.ensures (entries v c.args.list) here)) in
    (p.entry, p.is, c.requires.full p.entry p.has)

pub returns-in-Some : goal.returns-in-Some
returns-in-Some c =
    let v = c.args.lists.now in let live = c.requires.live in
    let here : get v c.args.list ≡ Some (entries v c.args.list) = live.1 ∙ ap Some (sym (ap list_or live.1)) in
    let p = passed v c.args.list (λ (e : Entry First). e.marked) (entries v c.args.list) c.args.place c.in-Some.item here (sym (c.in-Some.ensures (entries v c.args.list) here)) in
    ap Some (c.child_of.ensures p.entry p.is) ∙ sym p.number
