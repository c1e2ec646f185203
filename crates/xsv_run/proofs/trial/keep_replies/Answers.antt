use Rattle.xsv_run.proofs.trial.keep_replies.Goals as goal

pub returns-clause-answers : goal.returns-clause-answers
returns-clause-answers g c = rw (c.wanted_of-wanted.ensures, c.new-source.ensures) at c.answer_stream-status.ensures.reads.answers
