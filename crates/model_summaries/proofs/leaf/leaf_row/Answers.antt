use Rattle.std.proofs.Common.{◌≡◌, ◌<◌, ◌≤◌, arith}
use Rattle.model_summaries.specs.Maps.{width_of}
use Rattle.model_summaries.proofs.Writing.{first-written, next-written, all-written}
use Rattle.model_summaries.proofs.leaf.leaf_row.Goals as goal

pub loop-state-init : goal.loop-state-init
loop-state-init g c = first-written _ _ _ _ c.requires.row.0 c.requires.row.1 c.requires.width

pub set_cell-requires-clause-row : goal.set_cell-requires-clause-row
set_cell-requires-clause-row g c = (c.loop-state.invariant.written, c.loop-state.invariant.is)

pub set_cell-requires-clause-at : goal.set_cell-requires-clause-at
set_cell-requires-clause-at g c = let w = c.loop-state.invariant.width_is in let v = c.loop-state.invariant.width_was in omega arith

pub set_cell-requires-clause-value : goal.set_cell-requires-clause-value
set_cell-requires-clause-value g c = let w = c.loop-state.invariant.cap_is in let v = c.loop-state.invariant.width_was in omega arith

pub loop-state-preserved : goal.loop-state-preserved
loop-state-preserved g c =
    let within : c.loop-state.state < width_of c.args.automaton.now = omega arith in
    next-written _ _ _ _ _ _ _ _ c.loop-state.invariant within c.next_state.ensures.state c.set_cell.ensures.row c.set_cell.ensures.rows

pub returns-clause-row : goal.returns-clause-row
returns-clause-row g c =
    let some : 0 < width_of c.args.automaton.now = omega arith in
    let all : width_of c.args.automaton.now ≤ c.loop-state.state = omega arith in
    all-written _ _ _ _ _ _ c.loop-state.invariant some all
