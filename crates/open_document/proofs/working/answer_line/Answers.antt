use Rattle.std.proofs.Common.{Result, subst}
use Rattle.edit_script.specs.declared.command.Command.{Command}
use Rattle.edit_script.specs.declared.command.ScriptFault.{ScriptFault}
use Rattle.told.proofs.Saying.{memory_breaks}
use Rattle.told.specs.Going.{Answers, trace}
use Rattle.open_document.specs.Answers.{command_told}
use Rattle.open_document.specs.Held.{state_of}
use Rattle.open_document.specs.Replies.{line_told}
use Rattle.open_document.proofs.working.answer_line.Goals as goal

pub returns-in-Ok-clause-answers : goal.returns-in-Ok-clause-answers
returns-in-Ok-clause-answers g c = λ next.
    subst (λ (read : Result Command ScriptFault). Answers (line_told (state_of c.args.document.now) read next) c.answer_read.result
    (trace (g.W.Sink.taken c.args.sink.now) c.args.steps.now) (trace (g.W.Sink.taken c.answer_read.new.sink) c.answer_read.new.steps)
    (λ done. next (state_of c.answer_read.new.document))) c.in-Ok.ensures.command (c.answer_read.ensures.answers next)

pub returns-in-Err-clause-answers : goal.returns-in-Err-clause-answers
returns-in-Err-clause-answers g c = λ next.
    memory_breaks (command_told (state_of c.args.document.now) c.args.line.now c.args.block next) (trace (g.W.Sink.taken c.args.sink.now) c.args.steps.now)
