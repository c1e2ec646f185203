use Rattle.std.proofs.Common.{take}
use Rattle.std.specs.Prelude.{All, IsSome, nat_eq}
use Rattle.std.specs.HashMap.{get}
use Rattle.particle_forms.specs.Made.{AreNodesOf}
use Rattle.particle_forms.proofs.ordered_nodes.nodes_of.Given as goal

abbrev pub invariant-loop-id : goal.invariant-loop-id
invariant-loop-id l = record {
  right : AreNodesOf l.parts (get nat_eq l.numbers) l.nodes.items;
  known : All (λ id. IsSome (get nat_eq l.numbers id)) (take l.id-index l.order);
}
