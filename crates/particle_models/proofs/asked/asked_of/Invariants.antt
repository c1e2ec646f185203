use Rattle.std.proofs.Common.{◌≡◌, ℕ, ◌<◌, length, get_or}
use Rattle.particle_models.specs.declared.node.Node.{Node}
use Rattle.particle_models.specs.Asked.{IsAsked, Asks}
use Rattle.particle_models.proofs.asked.asked_of.Given as goal

abbrev pub invariant-loop-node : goal.invariant-loop-node
invariant-loop-node l = record {
  root : IsAsked l.asked.items l.root;
  asks : (k : ℕ) (d : Node) → k < l.node-index → Asks l.asked.items (get_or l.nodes k d);
  count : length l.asked.items ≡ length l.nodes;
}
