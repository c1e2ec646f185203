use Rattle.std.proofs.Common.{◌≡◌, ◌≤◌, ◌-◌, length, take}
use Rattle.std.specs.Io.KnownBytes.{Appends}
use Rattle.xsv_io.proofs.stream.write_whole.Given as goal

abbrev pub invariant-loop-at : goal.invariant-loop-at
invariant-loop-at g l = record {
  within : l.at ≤ length l.bytes;
  written : Appends (g.W.Sink.taken l.initial.sink) (g.W.Sink.taken l.sink) (take l.at l.bytes);
  later : g.W.Sink.faults l.initial.sink ≤ g.W.Sink.faults l.sink;
  kept : g.W.Sink.fault_bound l.sink ≡ g.W.Sink.fault_bound l.initial.sink;
}

abbrev pub decreases-loop-at : goal.decreases-loop-at
decreases-loop-at g l = length l.bytes - l.at
