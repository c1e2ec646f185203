use Rattle.std.proofs.Common.{◌≡◌, ◌≤◌, ◌<◌, ◌+◌, false}
use Rattle.item_listing.specs.declared.limits.TheConstants.{MOST_BYTES}
use Rattle.item_listing.specs.Listing.{bytes_taken}
use Rattle.item_listing.specs.Listed.{Waits}
use Rattle.told.specs.Going.{trace}
use Rattle.stream_answers.specs.inside.Turning.{IsStanding}
use Rattle.xsv_run.specs.inside.Progress.{StandsAt}
use Rattle.xsv_run.proofs.stream.take_pieces.Given as goal

abbrev pub invariant-pieces : goal.invariant-pieces
invariant-pieces g l = record {
  stands : StandsAt l.fn.reader.stream.wanted (g.S.Source.rest l.fn.source) (g.S.Source.rest l.source) (trace (g.W.Sink.taken l.fn.sink) l.fn.steps) (trace (g.W.Sink.taken l.sink) l.steps) l.reader;
  is_open : IsStanding l.reader.stream;
  waits : Waits l.reader.listing;
  going : l.reader.listing.finished ≡ false;
  room : bytes_taken l.reader.listing + l.room ≡ MOST_BYTES + 1;
  some : 0 < l.room;
  reads : g.S.Source.faults l.fn.source ≤ g.S.Source.faults l.source;
  writes : g.W.Sink.faults l.fn.sink ≤ g.W.Sink.faults l.sink;
  read_bound : g.S.Source.fault_bound l.source ≡ g.S.Source.fault_bound l.fn.source;
  write_bound : g.W.Sink.fault_bound l.sink ≡ g.W.Sink.fault_bound l.fn.sink;
  steps : l.fn.steps ≤ l.steps;
}

abbrev pub decreases-pieces : goal.decreases-pieces
decreases-pieces g l = l.room
