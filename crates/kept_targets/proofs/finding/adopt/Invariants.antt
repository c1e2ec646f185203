use Rattle.std.proofs.Common.{take}
use Rattle.kept_targets.specs.Counting.{Adopts, IsCounting}
use Rattle.kept_targets.proofs.finding.adopt.Given as goal

abbrev pub invariant-loop-node : goal.invariant-loop-node
invariant-loop-node l = record {
  counting : IsCounting l.keys;
  adopts : Adopts l.by.doc.now l.by.state.now.records.slots l.initial.keys l.keys (take l.node-index l.moved);
}
