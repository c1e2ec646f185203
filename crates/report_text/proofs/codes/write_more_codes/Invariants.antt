use Rattle.std.proofs.Common.{◌≡◌, ◌≤◌, [], ◌∷◌, ◌++◌, length}
use Rattle.report_text.specs.Words.{more_codes}
use Rattle.xsv_io.proofs.Sequence.{IsBegun}
use Rattle.report_text.proofs.codes.write_more_codes.Given as goal

abbrev pub invariant-codes : goal.invariant-codes
invariant-codes g l = record {
  begun : IsBegun (g.W.Sink.taken l.fn.sink) (g.W.Sink.taken l.sink) (more_codes l.rest ++ 10 ∷ []) (more_codes l.more ++ 10 ∷ []);
  later : g.W.Sink.faults l.fn.sink ≤ g.W.Sink.faults l.sink;
  kept : g.W.Sink.fault_bound l.sink ≡ g.W.Sink.fault_bound l.fn.sink;
}

abbrev pub decreases-codes : goal.decreases-codes
decreases-codes g l = length l.rest
