use Rattle.std.proofs.Common.{arith}
use Rattle.model_lists.proofs.Entries.{counted}
use Rattle.model_lists.proofs.Others.{by-update}
use Rattle.model_lists.proofs.RowKeeping.{over-states, row-live, row-written}
use Rattle.model_lists.proofs.Leading.{row-fits, row-shape, one-below}
use Rattle.model_lists.proofs.rows.set_row.Goals as goal

pub states_of-requires : goal.states_of-requires
states_of-requires g c =
    let q = c.requires.list in
    over-states c.args.lists.now c.args.list c.args.automaton.now q.0 q.1

pub set_at-requires-clause-list : goal.set_at-requires-clause-list
set_at-requires-clause-list g c =
    let q = c.requires.list in
    let l = row-live c.args.lists.now c.args.list c.args.automaton.now q.0 q.1 in
    let many = l.2 in
    let within = q.2 in
    (l.0, l.1, omega arith)

pub set_at-requires-clause-fits : goal.set_at-requires-clause-fits
set_at-requires-clause-fits g c =
    let q = c.requires.list in
    row-fits c.states_of.result.now c.args.child.symbol c.args.lists.now.shape (row-shape c.args.automaton.now c.states_of.result.now c.states_of.ensures c.args.lists.now c.args.list q.0 q.1) (one-below c.args.automaton.now c.states_of.result.now c.states_of.ensures c.args.child.symbol c.requires.symbol) c.leaf_with-leaf.result c.is_ambivalent_symbol.result c.leaf_with-leaf.ensures

pub returns-clause-list : goal.returns-clause-list
returns-clause-list g c =
    λ symbols h. row-written c.args.automaton.now c.states_of.result.now c.states_of.ensures c.args.lists.now c.set_at.new.seqs c.args.list _ c.args.child.place c.args.child.symbol c.leaf_with-leaf.result c.is_ambivalent_symbol.result c.leaf_with-leaf.ensures (c.is_ambivalent_symbol.ensures c.requires.symbol) c.set_at.ensures.change symbols h

pub returns-clause-others : goal.returns-clause-others
returns-clause-others g c =
    let q = c.requires.list in
    let l = row-live c.args.lists.now c.args.list c.args.automaton.now q.0 q.1 in
    by-update c.args.lists.now c.set_at.new.seqs c.args.list _ (c.set_at.ensures.change l.0 l.1).1

pub returns-clause-steps : goal.returns-clause-steps
returns-clause-steps g c =
    λ symbols h.
    let l = row-live c.args.lists.now c.args.list c.args.automaton.now symbols h in
    counted c.args.steps.now c.set_at.new.steps 16 1 _ _ l.2 (c.set_at.ensures.steps l.0 l.1)
