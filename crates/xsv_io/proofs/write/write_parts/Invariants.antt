use Rattle.std.proofs.Common.{◌≡◌, ◌≤◌, take}
use Rattle.std.specs.Io.KnownBytes.{Appends}
use Rattle.xsv_io.specs.Parts.{parts_text}
use Rattle.xsv_io.proofs.write.write_parts.Given as goal

abbrev pub invariant-loop-part : goal.invariant-loop-part
invariant-loop-part g l = record {
  written : Appends (g.W.Sink.taken l.initial.sink) (g.W.Sink.taken l.sink) (parts_text (take l.part-index l.parts));
  later : g.W.Sink.faults l.initial.sink ≤ g.W.Sink.faults l.sink;
  kept : g.W.Sink.fault_bound l.sink ≡ g.W.Sink.fault_bound l.initial.sink;
}
