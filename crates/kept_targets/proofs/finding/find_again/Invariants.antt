use Rattle.std.proofs.Common.{take}
use Rattle.kept_targets.specs.Counting.{Finds, IsCounting}
use Rattle.kept_targets.specs.Kept.{IsTargetOf}
use Rattle.kept_targets.proofs.finding.find_again.Given as goal

abbrev pub invariant-loop-node : goal.invariant-loop-node
invariant-loop-node l = record {
  counting : IsCounting l.keys;
  finds : Finds (IsTargetOf l.by.set.now l.by.doc.now l.by.state.now.records.slots) l.initial.keys l.keys (take l.node-index l.nodes);
}
