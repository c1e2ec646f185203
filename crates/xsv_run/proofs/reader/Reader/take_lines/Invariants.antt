use Rattle.std.proofs.Common.{◌≡◌, ◌≤◌, length}
use Rattle.item_listing.specs.Listing.{bytes_taken}
use Rattle.told.specs.Going.{trace}
use Rattle.stream_answers.specs.inside.Turning.{IsStanding}
use Rattle.xsv_run.specs.inside.Progress.{GoesOn}
use Rattle.xsv_run.proofs.reader.Reader.take_lines.Given as goal

abbrev pub invariant-lines : goal.invariant-lines
invariant-lines g l = record {
  on : GoesOn l.fn.self (trace (g.W.Sink.taken l.fn.sink) l.fn.steps) l.self (trace (g.W.Sink.taken l.sink) l.steps);
  is_open : IsStanding l.self.stream;
  counted : bytes_taken l.self.listing ≡ bytes_taken l.fn.self.listing;
  finished : l.self.listing.finished ≡ l.fn.self.listing.finished;
  later : g.W.Sink.faults l.fn.sink ≤ g.W.Sink.faults l.sink;
  kept : g.W.Sink.fault_bound l.sink ≡ g.W.Sink.fault_bound l.fn.sink;
  steps : l.fn.steps ≤ l.steps;
}

abbrev pub decreases-lines : goal.decreases-lines
decreases-lines g l = length l.self.listing.held
