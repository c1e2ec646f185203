use Rattle.component_tables.specs.inside.Runs as runs
use Rattle.component_tables.proofs.bases.simple_steps.Given as goal

abbrev pub invariant-loop-number : goal.invariant-loop-number
invariant-loop-number l = runs.AreSteps (runs.simple_at l.parts) l.number l.steps.items
