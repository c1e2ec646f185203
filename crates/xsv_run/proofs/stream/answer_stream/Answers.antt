use Rattle.xsv_run.proofs.stream.answer_stream.Goals as goal

pub returns-clause-reads : goal.returns-clause-reads
returns-clause-reads g c = record {
  answers = rw c.new-reader.ensures.wanted at c.take_pieces-status.ensures.output;
  broken = λ is. rw c.new-reader.ensures.wanted at (c.take_pieces-status.ensures.broken is);
  answered = c.take_pieces-status.ensures.answered;
}
