use Rattle.std.proofs.Common.{◌≡◌, [], length, get_or}
use Rattle.particle_models.specs.Forming.{AreOrdered, AreMade}
use Rattle.particle_models.proofs.forming.make_nodes.Given as goal

abbrev pub invariant-loop-number : goal.invariant-loop-number
invariant-loop-number l = record {
  count : length l.made.items ≡ l.number;
  ordered : AreOrdered l.parts.items;
  made : AreMade (λ n. get_or l.source.stands_for.now n []) l.source.nodes.now l.source.asked.now l.parts.items l.made.items;
}
