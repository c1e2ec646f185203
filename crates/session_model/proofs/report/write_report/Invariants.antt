use Rattle.std.proofs.Common.{◌≡◌, ◌≤◌}
use Rattle.session_model.proofs.Walking.{Walks, count_from}
use Rattle.session_model.proofs.report.write_report.Given as goal

abbrev pub invariant-elements : goal.invariant-elements
invariant-elements g l = record {
  walks : Walks (g.S.Session.state l.session) l.fn.most (g.W.Sink.taken l.fn.sink) (g.W.Sink.taken l.sink) l.left l.next;
  later : g.W.Sink.faults l.fn.sink ≤ g.W.Sink.faults l.sink;
  kept : g.W.Sink.fault_bound l.sink ≡ g.W.Sink.fault_bound l.fn.sink;
}

abbrev pub decreases-elements : goal.decreases-elements
decreases-elements g l = count_from l.next (g.S.Session.state l.session).found
