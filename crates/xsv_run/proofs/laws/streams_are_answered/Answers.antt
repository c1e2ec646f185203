use Rattle.xsv_run.proofs.Complete.{check_answered, check_comes, stream_answered, stream_comes}
use Rattle.xsv_run.proofs.laws.streams_are_answered.Goals as goal

pub returns-clause-check : goal.returns-clause-check
returns-clause-check c = check_answered c.streams_are_read.ensures.check

pub returns-clause-checked : goal.returns-clause-checked
returns-clause-checked c = check_comes c.streams_are_read.ensures.check

pub returns-clause-stream : goal.returns-clause-stream
returns-clause-stream c = stream_answered c.streams_are_read.ensures.stream

pub returns-clause-streamed : goal.returns-clause-streamed
returns-clause-streamed c = stream_comes c.streams_are_read.ensures.stream
