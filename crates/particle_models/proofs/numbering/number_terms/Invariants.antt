use Rattle.std.proofs.Common.{◌≡◌}
use Rattle.std.specs.Prelude.{All}
use Rattle.particle_models.specs.Numbering.{no_terms, entered, outcome, IsTaskWithin, weight_of}
use Rattle.particle_models.proofs.numbering.number_terms.Given as goal

abbrev pub invariant-loop-task : goal.invariant-loop-task
invariant-loop-task l = record {
  within : All (IsTaskWithin l.nodes) l.todo.items;
  outcome : outcome l.nodes l.todo.items l.numbering ≡ entered l.nodes l.root no_terms;
}

abbrev pub decreases-loop-task : goal.decreases-loop-task
decreases-loop-task l = weight_of l.nodes l.todo.items
