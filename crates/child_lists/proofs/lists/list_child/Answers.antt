use Rattle.std.specs.Prelude.{insert, length, remove}
use Rattle.std.proofs.Common.{◌+◌}
use Rattle.std.proofs.lemmas.Result.{on_ok_weaker}
use Rattle.child_listing.specs.from_kept_records.Slots.{kept_at, pair_at}
use Rattle.doc_changes.specs.Readers.{name_at}
use Rattle.doc_nodes.specs.Nodes.{element_children}
use Rattle.child_lists.specs.Family.{model_of, symbols_of}
use Rattle.child_lists.proofs.Listed.{unlisted-any, child-element, symbol-alone, in-list, place-free, listed-in, removed-many, as-many-steps}
use Rattle.child_lists.proofs.Written.{midway-edited}
use Rattle.child_lists.proofs.lists.list_child.Goals as goal

pub list_of-requires : goal.list_of-requires
list_of-requires g c = c.requires.midway.2.made

pub returns-in-None-clause-listed : goal.returns-in-None-clause-listed
returns-in-None-clause-listed g c =
    let k = c.args.kept.now in
    let p = c.args.at.now.parent in
    let symbols = symbols_of c.args.set.now c.args.doc.now k p in
    unlisted-any k.lists (model_of c.args.set.now k p) (kept_at k.records.slots p).list (remove symbols c.args.at.now.place) symbols c.in-None.ensures c.requires.listed

pub listed-child-requires-clause-usable : goal.listed-child-requires-clause-usable
listed-child-requires-clause-usable g c = c.requires.midway.2.beside.over.1.usable

pub listed-child-requires-clause-stands : goal.listed-child-requires-clause-stands
listed-child-requires-clause-stands g c = let over = c.requires.midway.2.beside.over in (over.0, over.1.stands)

pub listed-child-requires-clause-model : goal.listed-child-requires-clause-model
listed-child-requires-clause-model g c = ((pair_at c.args.kept.now.records.slots c.args.at.now.parent).of, c.in-Some.ensures.1)

pub listed-child-requires-clause-element : goal.listed-child-requires-clause-element
listed-child-requires-clause-element g c = child-element c.args.doc.now c.args.at.now c.requires.place

pub insert-requires-clause-list : goal.insert-requires-clause-list
insert-requires-clause-list g c =
    let set = c.args.set.now in
    let ns = c.args.doc.now in
    let k = c.args.kept.now in
    let spot = c.args.at.now in
    let a = c.in-Some.automaton.now in
    let found = c.in-Some.ensures in
    let child = c.listed-child in
    let others = remove (symbols_of set ns k spot.parent) spot.place in (
      others,
      in-list set ns k spot c.requires.place a c.in-Some.list found.0 found.1 child.result child.ensures.place child.ensures.symbol others c.requires.listed,
      place-free set ns k spot c.requires.place a c.in-Some.list found.0 found.1 child.result child.ensures.place child.ensures.symbol,
    )

pub insert-requires-clause-symbol : goal.insert-requires-clause-symbol
insert-requires-clause-symbol g c =
    symbol-alone c.args.set.now c.requires.midway.2.beside.over.1.usable (pair_at c.args.kept.now.records.slots c.args.at.now.parent).of c.in-Some.automaton.now c.in-Some.ensures.1 c.listed-child.result.symbol
    (name_at c.args.doc.now c.args.at.now.node) c.listed-child.ensures.symbol

pub returns-in-Some-clause-midway : goal.returns-in-Some-clause-midway
returns-in-Some-clause-midway g c =
    let set = c.args.set.now in
    let ns = c.args.doc.now in
    let k = c.args.kept.now in
    let spot = c.args.at.now in
    let a = c.in-Some.automaton.now in
    let h = c.in-Some.list in
    let found = c.in-Some.ensures in
    let child = c.listed-child in
    let others = remove (symbols_of set ns k spot.parent) spot.place in
    on_ok_weaker c.insert.result (λ f was waiting m.
    midway-edited set ns k c.insert.new.self spot.parent h found.0 c.insert.ensures.others (
      a,
      insert others child.result.place child.result.symbol,
      f others (in-list set ns k spot c.requires.place a h found.0 found.1 child.result child.ensures.place child.ensures.symbol others c.requires.listed),
    )
    was waiting m) c.insert.ensures.list

pub returns-in-Some-clause-listed : goal.returns-in-Some-clause-listed
returns-in-Some-clause-listed g c =
    let set = c.args.set.now in
    let ns = c.args.doc.now in
    let k = c.args.kept.now in
    let spot = c.args.at.now in
    let a = c.in-Some.automaton.now in
    let h = c.in-Some.list in
    let found = c.in-Some.ensures in
    let child = c.listed-child in
    let others = remove (symbols_of set ns k spot.parent) spot.place in
    on_ok_weaker c.insert.result (λ f.
    listed-in set ns k spot c.requires.place a h found.0 found.1 child.result child.ensures.place child.ensures.symbol c.insert.new.self
    (f others (in-list set ns k spot c.requires.place a h found.0 found.1 child.result child.ensures.place child.ensures.symbol others c.requires.listed))) c.insert.ensures.list

pub returns-in-Some-clause-steps : goal.returns-in-Some-clause-steps
returns-in-Some-clause-steps g c =
    let set = c.args.set.now in
    let ns = c.args.doc.now in
    let k = c.args.kept.now in
    let spot = c.args.at.now in
    let found = c.in-Some.ensures in
    let child = c.listed-child in
    let others = remove (symbols_of set ns k spot.parent) spot.place in
    as-many-steps c.args.steps.now c.insert.new.steps (length others + 2) (length (element_children ns spot.parent) + 1) (removed-many set ns k spot c.requires.place)
    (c.insert.ensures.steps others
    (in-list set ns k spot c.requires.place c.in-Some.automaton.now c.in-Some.list found.0 found.1 child.result child.ensures.place child.ensures.symbol others c.requires.listed))
