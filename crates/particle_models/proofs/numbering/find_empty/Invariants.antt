use Rattle.std.proofs.Common.{◌≡◌, [], map, length, take}
use Rattle.particle_models.specs.Nodes.{models_from}
use Rattle.particle_models.specs.Numbering.{has_no_terms}
use Rattle.particle_models.proofs.numbering.find_empty.Given as goal

abbrev pub invariant-loop-node : goal.invariant-loop-node
invariant-loop-node l = record {
  count : length l.flags.items ≡ l.node-index;
  flags : l.flags.items ≡ map has_no_terms (models_from [] (take l.node-index l.nodes));
}
