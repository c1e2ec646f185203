use Rattle.std.proofs.Common.{◌≡◌, ◌<◌, ◌≤◌, ◌+◌, List, length, drop}
use Rattle.std.specs.Prelude.{All}
use Rattle.particle_models.specs.Numbering.{State, all_entered, outcome, IsTaskWithin, weight_of, members_weight}
use Rattle.particle_models.specs.declared.node.Node.{Node}
use Rattle.particle_models.proofs.numbering.push_members.Given as goal

abbrev pub invariant-loop-left : goal.invariant-loop-left
invariant-loop-left l = record {
  here : l.left ≤ length l.members;
  within : (nodes : List Node) → All (λ m. m < length nodes) l.members → All (IsTaskWithin nodes) l.initial.todo.items → All (IsTaskWithin nodes) l.todo.items;
  outcome : (nodes : List Node) (s : State) → outcome nodes l.todo.items s ≡ outcome nodes l.initial.todo.items (all_entered nodes (drop l.left l.members) s);
  weight : (nodes : List Node) → weight_of nodes l.todo.items ≡ weight_of nodes l.initial.todo.items + members_weight nodes (drop l.left l.members);
}

abbrev pub decreases-loop-left : goal.decreases-loop-left
decreases-loop-left l = l.left
