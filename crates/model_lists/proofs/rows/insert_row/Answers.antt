use Rattle.model_lists.proofs.Entries.{counted}
use Rattle.model_lists.proofs.Others.{by-update, same-others}
use Rattle.model_lists.proofs.RowKeeping.{over-states, row-live, row-place, row-inserted}
use Rattle.model_lists.proofs.Leading.{row-fits, row-shape, one-below}
use Rattle.model_lists.proofs.rows.insert_row.Goals as goal

pub states_of-requires : goal.states_of-requires
states_of-requires g c =
    let q = c.requires.list in
    over-states c.args.lists.now c.args.list c.args.automaton.now q.0 q.1

pub insert-requires-clause-live : goal.insert-requires-clause-live
insert-requires-clause-live g c =
    let q = c.requires.list in
    let l = row-live c.args.lists.now c.args.list c.args.automaton.now q.0 q.1 in
    (l.0, l.1)

pub insert-requires-clause-place : goal.insert-requires-clause-place
insert-requires-clause-place g c =
    let q = c.requires.list in
    row-place c.args.lists.now c.args.list c.args.automaton.now q.0 q.1 c.args.child.place q.2

pub insert-requires-clause-fits : goal.insert-requires-clause-fits
insert-requires-clause-fits g c =
    let q = c.requires.list in
    row-fits c.states_of.result.now c.args.child.symbol c.args.lists.now.shape (row-shape c.args.automaton.now c.states_of.result.now c.states_of.ensures c.args.lists.now c.args.list q.0 q.1) (one-below c.args.automaton.now c.states_of.result.now c.states_of.ensures c.args.child.symbol c.requires.symbol) c.leaf_with-leaf.result c.is_ambivalent_symbol.result c.leaf_with-leaf.ensures

pub returns-clause-list : goal.returns-clause-list
returns-clause-list g c =
    λ symbols h. row-inserted c.args.automaton.now c.states_of.result.now c.states_of.ensures c.args.lists.now c.insert.new.self c.args.list _ c.args.child.place c.args.child.symbol c.leaf_with-leaf.result c.is_ambivalent_symbol.result c.leaf_with-leaf.ensures (c.is_ambivalent_symbol.ensures c.requires.symbol) _ c.in_ok-insert.ensures.ok symbols h

pub returns-clause-others : goal.returns-clause-others
returns-clause-others g c =
    let q = c.requires.list in
    let l = row-live c.args.lists.now c.args.list c.args.automaton.now q.0 q.1 in
    by-update c.args.lists.now c.insert.new.self c.args.list _ (c.in_ok-insert.ensures.ok l.0 l.1)

pub returns-clause-steps : goal.returns-clause-steps
returns-clause-steps g c =
    λ symbols h.
    let l = row-live c.args.lists.now c.args.list c.args.automaton.now symbols h in
    counted c.args.steps.now c.insert.new.steps 16 2 _ _ l.2 (c.insert.ensures.steps l.0 l.1)

pub returns-in_err-insert-clause-others : goal.returns-in_err-insert-clause-others
returns-in_err-insert-clause-others g c =
    same-others c.args.lists.now c.insert.new.self c.args.list c.in_err-insert.ensures.err

pub returns-in_err-insert-clause-steps : goal.returns-in_err-insert-clause-steps
returns-in_err-insert-clause-steps g c =
    λ symbols h.
    let l = row-live c.args.lists.now c.args.list c.args.automaton.now symbols h in
    counted c.args.steps.now c.insert.new.steps 16 2 _ _ l.2 (c.insert.ensures.steps l.0 l.1)
