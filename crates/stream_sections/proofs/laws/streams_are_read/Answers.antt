use Rattle.stream_sections.proofs.Spelling.{check_given, stream_read}
use Rattle.stream_sections.proofs.Unreading.{check_spelt, stream_spelt}
use Rattle.stream_sections.proofs.Refusing as refusing
use Rattle.stream_sections.proofs.laws.streams_are_read.Goals as goal

pub returns-clause-check : goal.returns-clause-check
returns-clause-check c = check_given c.documents_are_spelled.ensures.read

pub returns-clause-stream : goal.returns-clause-stream
returns-clause-stream c = stream_read c.documents_are_spelled.ensures.read

pub returns-clause-check_refused : goal.returns-clause-check_refused
returns-clause-check_refused c = refusing.check_refused c.documents_are_spelled.ensures.read

pub returns-clause-stream_refused : goal.returns-clause-stream_refused
returns-clause-stream_refused c = refusing.stream_refused c.documents_are_spelled.ensures.read

pub returns-clause-check_spelled : goal.returns-clause-check_spelled
returns-clause-check_spelled c = check_spelt c.documents_are_spelled.ensures.spelled

pub returns-clause-stream_spelled : goal.returns-clause-stream_spelled
returns-clause-stream_spelled c = stream_spelt c.documents_are_spelled.ensures.spelled
