use Rattle.std.proofs.Common.{◌≡◌, ◌<◌, [], map, length, take}
use Rattle.std.specs.Prelude.{All}
use Rattle.xs_positions.specs.Nodes.{tree_at}
use Rattle.particle_models.specs.Nodes.{models_from}
use Rattle.particle_models.specs.Sharing.{inhabited_of, shared}
use Rattle.particle_models.proofs.sharing.share.Given as goal

abbrev pub invariant-loop-node : goal.invariant-loop-node
invariant-loop-node l = record {
  count : length l.ids.items ≡ l.node-index;
  ids : All (λ e. e < length l.expr) l.ids.items;
  trees : map (tree_at l.expr) l.ids.items ≡ map (shared (inhabited_of l.inhabited)) (models_from [] (take l.node-index l.nodes));
}
