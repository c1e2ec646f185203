use Rattle.std.proofs.Common.{◌≡◌, ◌≤◌, length}
use Rattle.report_text.specs.Lines.{attr_lines}
use Rattle.report_text.specs.Named.{AreNamed}
use Rattle.xsv_io.proofs.Sequence.{IsBegun}
use Rattle.report_text.proofs.record.write_attrs.Given as goal

abbrev pub invariant-records : goal.invariant-records
invariant-records g l = record {
  named : AreNamed l.names l.parts l.left;
  begun : IsBegun (g.W.Sink.taken l.fn.sink) (g.W.Sink.taken l.sink) (attr_lines l.names l.parts l.number l.left) (attr_lines l.names l.parts l.number l.records);
  later : g.W.Sink.faults l.fn.sink ≤ g.W.Sink.faults l.sink;
  kept : g.W.Sink.fault_bound l.sink ≡ g.W.Sink.fault_bound l.fn.sink;
}

abbrev pub decreases-records : goal.decreases-records
decreases-records g l = length l.left
