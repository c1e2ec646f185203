use Rattle.std.proofs.Common.{subst}
use Rattle.told.proofs.Saying.{memory_breaks}
use Rattle.told.specs.Going.{Answers, trace}
use Rattle.open_document.specs.Answers.{command_told}
use Rattle.open_document.specs.Held.{state_of}
use Rattle.open_document.specs.State.{OpenState}
use Rattle.open_document.proofs.Noting.{with_room, room_logged}
use Rattle.open_document.proofs.working.answer.Goals as goal

pub answer_line-requires-clause-logged : goal.answer_line-requires-clause-logged
answer_line-requires-clause-logged g c = room_logged c.args.document.now c.reserve.new.self c.reserve.ensures.kept c.requires.logged

pub returns-in-Ok-clause-answers : goal.returns-in-Ok-clause-answers
returns-in-Ok-clause-answers g c = λ next.
    subst (λ (s : OpenState). Answers (command_told s c.args.line.now c.args.block next) c.answer_line.result
    (trace (g.W.Sink.taken c.args.sink.now) c.args.steps.now) (trace (g.W.Sink.taken c.answer_line.new.sink) c.answer_line.new.steps)
    (λ done. next (state_of c.answer_line.new.document))) (with_room c.args.document.now c.reserve.new.self c.reserve.ensures.kept) (c.answer_line.ensures.answers next)

pub returns-in-Err-clause-answers : goal.returns-in-Err-clause-answers
returns-in-Err-clause-answers g c = λ next.
    memory_breaks (command_told (state_of c.args.document.now) c.args.line.now c.args.block next) (trace (g.W.Sink.taken c.args.sink.now) c.args.steps.now)

pub returns-in-Err-clause-logged : goal.returns-in-Err-clause-logged
returns-in-Err-clause-logged g c = λ live. room_logged c.args.document.now c.reserve.new.self c.reserve.ensures.kept c.requires.logged
