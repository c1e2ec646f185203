use Rattle.std.proofs.Common.{◌≡◌, ◌≤◌, take}
use Rattle.std.specs.Io.KnownBytes.{Appends}
use Rattle.xsv_io.specs.Escaping.{escaped}
use Rattle.xsv_io.proofs.write.write_escaped.Given as goal

abbrev pub invariant-loop-byte : goal.invariant-loop-byte
invariant-loop-byte g l = record {
  written : Appends (g.W.Sink.taken l.initial.sink) (g.W.Sink.taken l.sink) (escaped (take l.byte-index l.bytes));
  later : g.W.Sink.faults l.initial.sink ≤ g.W.Sink.faults l.sink;
  kept : g.W.Sink.fault_bound l.sink ≡ g.W.Sink.fault_bound l.initial.sink;
}
