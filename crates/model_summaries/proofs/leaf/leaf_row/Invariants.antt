use Rattle.std.proofs.Common.{◌≡◌}
use Rattle.content_automaton.specs.Automaton.{step_of}
use Rattle.model_summaries.specs.Maps.{width_of}
use Rattle.model_summaries.proofs.Writing.{IsWritten}
use Rattle.model_summaries.proofs.leaf.leaf_row.Given as goal

abbrev pub invariant-loop-state : goal.invariant-loop-state
invariant-loop-state g l = IsWritten l.fn.rows l.rows l.row (width_of l.automaton) (λ s. step_of l.automaton.machine s l.symbol) l.state
