use Rattle.std.proofs.Common.{take}
use Rattle.kept_targets.specs.Counting.{Drops, IsCounting}
use Rattle.kept_targets.proofs.finding.drop_each.Given as goal

abbrev pub invariant-loop-node : goal.invariant-loop-node
invariant-loop-node l = record {
  counting : IsCounting l.keys;
  drops : Drops l.initial.keys l.keys (take l.node-index l.nodes);
}
