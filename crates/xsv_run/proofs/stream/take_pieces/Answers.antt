use Rattle.std.proofs.Common.{◌≤◌, arith, refl, sym, subst, ◌∙◌}
use Rattle.item_listing.specs.Listed.{Waits}
use Rattle.told.specs.Going.{trace}
use Rattle.xsv_run.proofs.Telling.{answers_by, answers_broken, not_words, not_read, write_failed, rose_later}
use Rattle.xsv_run.proofs.Streams.{stands_first, unread_waits, stands_further, room_further, output_ends, few_ends, output_last, few_last, output_broken, stops_broken, few_failed}
use Rattle.xsv_run.proofs.stream.take_pieces.Goals as goal

pub pieces-init : goal.pieces-init
pieces-init g c = record {
  stands = stands_first c.places_answer_sections.ensures.sectioned c.args.reader.now _ _ c.requires.unbegun c.requires.unread;
  is_open = c.requires.open;
  waits = subst Waits (sym c.requires.unread) unread_waits;
  going = rw c.requires.unread refl;
  room = rw c.requires.unread refl;
  some = omega arith;
  reads = omega arith;
  writes = omega arith;
  read_bound = refl;
  write_bound = refl;
  steps = omega arith;
}

pub pieces-preserved : goal.pieces-preserved
pieces-preserved g c =
    let old = c.pieces.invariant in
    let two = c.in-Goes.ensures.takes in
    let a = c.args.reader.now.stream.wanted in
    let room = room_further a (g.S.Source.rest c.args.source.now) (g.S.Source.rest c.pieces.source) (g.S.Source.rest c.take_piece.new.source)
    (trace (g.W.Sink.taken c.args.sink.now) c.args.steps.now) (trace (g.W.Sink.taken c.pieces.sink) c.pieces.steps) (trace (g.W.Sink.taken c.take_piece.new.sink) c.take_piece.new.steps)
    c.pieces.reader c.take_piece.new.reader c.in-Goes.count c.pieces.room two old.room in
    record {
      stands = stands_further a (g.S.Source.rest c.args.source.now) (g.S.Source.rest c.pieces.source) (g.S.Source.rest c.take_piece.new.source)
          (trace (g.W.Sink.taken c.args.sink.now) c.args.steps.now) (trace (g.W.Sink.taken c.pieces.sink) c.pieces.steps) (trace (g.W.Sink.taken c.take_piece.new.sink) c.take_piece.new.steps)
          c.pieces.reader c.take_piece.new.reader c.in-Goes.count old.stands two;
      is_open = c.in-Goes.ensures.stays;
      waits = two.pauses.pauses.waits;
      going = two.pauses.going;
      room = room.0;
      some = room.1;
      reads = omega (arith, old.reads, c.take_piece.ensures.reads.later);
      writes = omega (arith, old.writes, c.take_piece.ensures.writes.later);
      read_bound = c.take_piece.ensures.reads.kept ∙ old.read_bound;
      write_bound = c.take_piece.ensures.writes.kept ∙ old.write_bound;
      steps = omega (arith, old.steps, c.take_piece.ensures.later);
    }

pub returns-in-Ends-clause-output : goal.returns-in-Ends-clause-output
returns-in-Ends-clause-output g c =
    answers_by c.args.reader.now.stream.wanted _ c.in-Ends.ended _ _ c.of_stream-in-Ends.result c.of_stream-in-Ends.ensures
    (output_ends _ _ _ _ _ _ _ _ c.in-Ends.ended c.pieces.invariant.stands c.in-Ends.ensures.takes)

pub returns-in-Ends-clause-few : goal.returns-in-Ends-clause-few
returns-in-Ends-clause-few g c = few_ends _ _ _ _ _ _ _ _ c.in-Ends.ended c.pieces.invariant.stands c.in-Ends.ensures.takes

pub returns-in-Ends-clause-broken : goal.returns-in-Ends-clause-broken
returns-in-Ends-clause-broken g c = λ is. absurd (not_read c.in-Ends.ended c.of_stream-in-Ends.result c.of_stream-in-Ends.ensures is)

pub returns-in-Ends-clause-answered : goal.returns-in-Ends-clause-answered
returns-in-Ends-clause-answered g c = not_words c.in-Ends.ended c.of_stream-in-Ends.result c.of_stream-in-Ends.ensures

pub returns-in-Ends-clause-causes : goal.returns-in-Ends-clause-causes
returns-in-Ends-clause-causes g c = record {
  reads = record {
    later = omega (arith, c.pieces.invariant.reads, c.take_piece.ensures.reads.later);
    kept = c.take_piece.ensures.reads.kept ∙ c.pieces.invariant.read_bound;
    rose = λ is. absurd (not_read c.in-Ends.ended c.of_stream-in-Ends.result c.of_stream-in-Ends.ensures is);
  };
  writes = record {
    later = omega (arith, c.pieces.invariant.writes, c.take_piece.ensures.writes.later);
    kept = c.take_piece.ensures.writes.kept ∙ c.pieces.invariant.write_bound;
    rose = λ is. rose_later c.pieces.invariant.writes (c.in-Ends.ensures.writes.rose (write_failed c.in-Ends.ended c.of_stream-in-Ends.result c.of_stream-in-Ends.ensures is));
  };
  later = omega (arith, c.pieces.invariant.steps, c.take_piece.ensures.later);
}

pub returns-in-AtEnd-clause-output : goal.returns-in-AtEnd-clause-output
returns-in-AtEnd-clause-output g c =
    answers_by c.args.reader.now.stream.wanted _ c.finish.result _ _ c.of_stream.result c.of_stream.ensures
    (output_last _ _ _ _ _ _ _ _ _ _ c.pieces.invariant.stands c.in-AtEnd.ensures.takes c.finish.result c.finish.ensures.ends)

pub returns-in-AtEnd-clause-few : goal.returns-in-AtEnd-clause-few
returns-in-AtEnd-clause-few g c =
    few_last c.args.reader.now.stream.wanted _ _ _ _ _ _ (trace (g.W.Sink.taken c.take_piece.new.sink) c.take_piece.new.steps) _ _ c.pieces.invariant.stands c.in-AtEnd.ensures.takes c.pieces.room c.pieces.invariant.room

pub returns-in-AtEnd-clause-broken : goal.returns-in-AtEnd-clause-broken
returns-in-AtEnd-clause-broken g c = λ is. absurd (not_read c.finish.result c.of_stream.result c.of_stream.ensures is)

pub returns-in-AtEnd-clause-answered : goal.returns-in-AtEnd-clause-answered
returns-in-AtEnd-clause-answered g c = not_words c.finish.result c.of_stream.result c.of_stream.ensures

pub returns-in-AtEnd-clause-causes : goal.returns-in-AtEnd-clause-causes
returns-in-AtEnd-clause-causes g c =
    let before : g.W.Sink.faults c.args.sink.now ≤ g.W.Sink.faults c.take_piece.new.sink = omega (arith, c.pieces.invariant.writes, c.take_piece.ensures.writes.later) in
    record {
      reads = record {
        later = omega (arith, c.pieces.invariant.reads, c.take_piece.ensures.reads.later);
        kept = c.take_piece.ensures.reads.kept ∙ c.pieces.invariant.read_bound;
        rose = λ is. absurd (not_read c.finish.result c.of_stream.result c.of_stream.ensures is);
      };
      writes = record {
        later = omega (arith, before, c.finish.ensures.writes.later);
        kept = c.finish.ensures.writes.kept ∙ c.take_piece.ensures.writes.kept ∙ c.pieces.invariant.write_bound;
        rose = λ is. rose_later before (c.finish.ensures.writes.rose (write_failed c.finish.result c.of_stream.result c.of_stream.ensures is));
      };
      later = omega (arith, c.pieces.invariant.steps, c.take_piece.ensures.later, c.finish.ensures.later);
    }

pub returns-in-Failed-clause-output : goal.returns-in-Failed-clause-output
returns-in-Failed-clause-output g c =
    answers_broken c.args.reader.now.stream.wanted _ _ _ (output_broken _ _ _ _ _ _ _ c.pieces.invariant.stands c.in-Failed.ensures.takes.1)

pub returns-in-Failed-clause-broken : goal.returns-in-Failed-clause-broken
returns-in-Failed-clause-broken g c = λ is.
    stops_broken c.args.reader.now.stream.wanted _ _ _ _ _ _ _ c.pieces.invariant.stands c.pieces.invariant.waits c.pieces.invariant.going c.in-Failed.ensures.takes.1 c.in-Failed.ensures.takes.2

pub returns-in-Failed-clause-few : goal.returns-in-Failed-clause-few
returns-in-Failed-clause-few g c =
    few_failed c.args.reader.now.stream.wanted _ _ _ _ _ (trace (g.W.Sink.taken c.take_piece.new.sink) c.take_piece.new.steps) _ c.pieces.invariant.stands (omega (arith, c.pieces.invariant.room)) c.in-Failed.ensures.takes.2
