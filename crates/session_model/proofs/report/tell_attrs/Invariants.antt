use Rattle.std.proofs.Common.{◌≡◌, ◌≤◌, length, map}
use Rattle.xsv_io.proofs.Sequence.{IsBegun}
use Rattle.compiled_schema.specs.Usable.{set_of}
use Rattle.report_text.specs.Named.{AreNamed}
use Rattle.session_model.specs.Reports.{attr_line_of}
use Rattle.session_model.specs.inside.Telling.{text_of, left_all}
use Rattle.session_model.proofs.report.tell_attrs.Given as goal

abbrev pub invariant-attrs : goal.invariant-attrs
invariant-attrs g l = record {
  named : AreNamed l.set.names l.set.parts l.rest;
  begun : IsBegun (g.W.Sink.taken l.fn.sink) (g.W.Sink.taken l.sink) (text_of l.left (map (attr_line_of (set_of l.set) l.node) l.rest)) (text_of l.fn.left (map (attr_line_of (set_of l.set) l.node) l.attrs));
  left_is : left_all l.left (map (attr_line_of (set_of l.set) l.node) l.rest) ≡ left_all l.fn.left (map (attr_line_of (set_of l.set) l.node) l.attrs);
  later : g.W.Sink.faults l.fn.sink ≤ g.W.Sink.faults l.sink;
  kept : g.W.Sink.fault_bound l.sink ≡ g.W.Sink.fault_bound l.fn.sink;
}

abbrev pub decreases-attrs : goal.decreases-attrs
decreases-attrs g l = length l.rest
