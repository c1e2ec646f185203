use Rattle.std.proofs.Common.{Some, None, Ok, Result, refl, sym, ap, ◌∙◌, subst}
use Rattle.edit_script.specs.Faults as faults
use Rattle.edit_script.specs.declared.command.Command.{Command}
use Rattle.edit_script.specs.declared.command.ScriptFault.{ScriptFault}
use Rattle.told.proofs.Saying.{free_answers}
use Rattle.told.specs.Going.{Answers, trace}
use Rattle.told.specs.Tells.{Wrote}
use Rattle.open_document.proofs.Edits.{refusal-is}
use Rattle.open_document.specs.Held.{state_of}
use Rattle.open_document.specs.Replies.{refusal, assess_reply, report_reply, total_reply, line_told}
use Rattle.open_document.proofs.line.answer_read.Goals as goal

pub returns-in-Ok-Change-clause-answers : goal.returns-in-Ok-Change-clause-answers
returns-in-Ok-Change-clause-answers g c = λ next.
    let s = state_of c.args.document.now in
    let is = c.in-Ok-Change.is ∙ ap (λ (x : Command). Ok x) c.in-Ok-Change.field-0-is in
    subst (λ (read : Result Command ScriptFault). Answers (line_told s read next) c.answer_change.result (trace (g.W.Sink.taken c.args.sink.now) c.args.steps.now)
    (trace (g.W.Sink.taken c.answer_change.new.sink) c.answer_change.new.steps) (λ done. next (state_of c.answer_change.new.document))) (sym is) (c.answer_change.ensures.answers next)

pub returns-in-Ok-Assess-clause-answers : goal.returns-in-Ok-Assess-clause-answers
returns-in-Ok-Assess-clause-answers g c = λ next.
    let s = state_of c.args.document.now in
    let is = c.in-Ok-Assess.is ∙ ap (λ (x : Command). Ok x) c.in-Ok-Assess.field-0-is in
    subst (λ (read : Result Command ScriptFault). Answers (line_told s read next) c.answer_assess.result (trace (g.W.Sink.taken c.args.sink.now) c.args.steps.now)
    (trace (g.W.Sink.taken c.answer_assess.new.sink) c.args.steps.now) (λ done. next s)) (sym is)
    (free_answers (assess_reply s.session c.in-Ok-Assess.node) (λ done. next s) (next s) c.answer_assess.result (g.W.Sink.taken c.args.sink.now) (g.W.Sink.taken c.answer_assess.new.sink) c.args.steps.now
    (λ done. refl) c.answer_assess.ensures.wrote)

pub returns-in-Ok-Errors-clause-answers : goal.returns-in-Ok-Errors-clause-answers
returns-in-Ok-Errors-clause-answers g c = λ next.
    let s = state_of c.args.document.now in
    let is = c.in-Ok-Errors.is ∙ ap (λ (x : Command). Ok x) c.in-Ok-Errors.field-0-is in
    subst (λ (read : Result Command ScriptFault). Answers (line_told s read next) c.answer_report.result (trace (g.W.Sink.taken c.args.sink.now) c.args.steps.now)
    (trace (g.W.Sink.taken c.answer_report.new.sink) c.args.steps.now) (λ done. next s)) (sym is)
    (free_answers (report_reply (Some s.most) s.session) (λ done. next s) (next s) c.answer_report.result (g.W.Sink.taken c.args.sink.now) (g.W.Sink.taken c.answer_report.new.sink) c.args.steps.now
    (λ done. refl) c.answer_report.ensures.wrote)

pub returns-in-Ok-Report-clause-answers : goal.returns-in-Ok-Report-clause-answers
returns-in-Ok-Report-clause-answers g c = λ next.
    let s = state_of c.args.document.now in
    let is = c.in-Ok-Report.is ∙ ap (λ (x : Command). Ok x) c.in-Ok-Report.field-0-is in
    subst (λ (read : Result Command ScriptFault). Answers (line_told s read next) c.answer_report-in-Ok-Report.result (trace (g.W.Sink.taken c.args.sink.now) c.args.steps.now)
    (trace (g.W.Sink.taken c.answer_report-in-Ok-Report.new.sink) c.args.steps.now) (λ done. next s)) (sym is)
    (free_answers (report_reply None s.session) (λ done. next s) (next s) c.answer_report-in-Ok-Report.result (g.W.Sink.taken c.args.sink.now) (g.W.Sink.taken c.answer_report-in-Ok-Report.new.sink) c.args.steps.now
    (λ done. refl) c.answer_report-in-Ok-Report.ensures.wrote)

pub returns-in-Ok-Total-clause-answers : goal.returns-in-Ok-Total-clause-answers
returns-in-Ok-Total-clause-answers g c = λ next.
    let s = state_of c.args.document.now in
    let is = c.in-Ok-Total.is ∙ ap (λ (x : Command). Ok x) c.in-Ok-Total.field-0-is in
    subst (λ (read : Result Command ScriptFault). Answers (line_told s read next) c.answer_total.result (trace (g.W.Sink.taken c.args.sink.now) c.args.steps.now)
    (trace (g.W.Sink.taken c.answer_total.new.sink) c.args.steps.now) (λ done. next s)) (sym is)
    (free_answers (total_reply s.session) (λ done. next s) (next s) c.answer_total.result (g.W.Sink.taken c.args.sink.now) (g.W.Sink.taken c.answer_total.new.sink) c.args.steps.now
    (λ done. refl) c.answer_total.ensures.wrote)

pub returns-in-Ok-Undo-clause-answers : goal.returns-in-Ok-Undo-clause-answers
returns-in-Ok-Undo-clause-answers g c = λ next.
    let s = state_of c.args.document.now in
    let is = c.in-Ok-Undo.is ∙ ap (λ (x : Command). Ok x) c.in-Ok-Undo.field-0-is in
    subst (λ (read : Result Command ScriptFault). Answers (line_told s read next) c.answer_undo.result (trace (g.W.Sink.taken c.args.sink.now) c.args.steps.now)
    (trace (g.W.Sink.taken c.answer_undo.new.sink) c.answer_undo.new.steps) (λ done. next (state_of c.answer_undo.new.document))) (sym is) (c.answer_undo.ensures.answers next)

pub returns-in-Ok-Redo-clause-answers : goal.returns-in-Ok-Redo-clause-answers
returns-in-Ok-Redo-clause-answers g c = λ next.
    let s = state_of c.args.document.now in
    let is = c.in-Ok-Redo.is ∙ ap (λ (x : Command). Ok x) c.in-Ok-Redo.field-0-is in
    subst (λ (read : Result Command ScriptFault). Answers (line_told s read next) c.answer_redo.result (trace (g.W.Sink.taken c.args.sink.now) c.args.steps.now)
    (trace (g.W.Sink.taken c.answer_redo.new.sink) c.answer_redo.new.steps) (λ done. next (state_of c.answer_redo.new.document))) (sym is) (c.answer_redo.ensures.answers next)

pub returns-in-Ok-Next-clause-answers : goal.returns-in-Ok-Next-clause-answers
returns-in-Ok-Next-clause-answers g c = λ next.
    let s = state_of c.args.document.now in
    subst (λ (read : Result Command ScriptFault). Answers (line_told s read next) c.answer_next.result (trace (g.W.Sink.taken c.args.sink.now) c.args.steps.now)
    (trace (g.W.Sink.taken c.answer_next.new.sink) c.answer_next.new.steps) (λ done. next s)) (sym (c.in-Ok-Next.is ∙ ap (λ (x : Command). Ok x) c.in-Ok-Next.field-0-is)) (c.answer_next.ensures.answers next)

pub returns-in-Ok-Swap-clause-answers : goal.returns-in-Ok-Swap-clause-answers
returns-in-Ok-Swap-clause-answers g c = λ next.
    let s = state_of c.args.document.now in
    let is = c.in-Ok-Swap.is ∙ ap (λ (x : Command). Ok x) c.in-Ok-Swap.field-0-is in
    subst (λ (read : Result Command ScriptFault). Answers (line_told s read next) c.answer_swap.result (trace (g.W.Sink.taken c.args.sink.now) c.args.steps.now)
    (trace (g.W.Sink.taken c.answer_swap.new.sink) c.answer_swap.new.steps) (λ done. next (state_of c.answer_swap.new.document))) (sym is) (c.answer_swap.ensures.answers next)

pub returns-in-Ok-Turn-clause-answers : goal.returns-in-Ok-Turn-clause-answers
returns-in-Ok-Turn-clause-answers g c = λ next.
    let s = state_of c.args.document.now in
    let is = c.in-Ok-Turn.is ∙ ap (λ (x : Command). Ok x) c.in-Ok-Turn.field-0-is in
    subst (λ (read : Result Command ScriptFault). Answers (line_told s read next) c.answer_turn.result (trace (g.W.Sink.taken c.args.sink.now) c.args.steps.now)
    (trace (g.W.Sink.taken c.answer_turn.new.sink) c.answer_turn.new.steps) (λ done. next (state_of c.answer_turn.new.document))) (sym is) (c.answer_turn.ensures.answers next)

pub returns-in-Err-clause-answers : goal.returns-in-Err-clause-answers
returns-in-Err-clause-answers g c = λ next.
    let s = state_of c.args.document.now in
    subst (λ (read : Result Command ScriptFault). Answers (line_told s read next) c.write_refusal.result (trace (g.W.Sink.taken c.args.sink.now) c.args.steps.now)
    (trace (g.W.Sink.taken c.write_refusal.new.sink) c.args.steps.now) (λ done. next s)) (sym c.in-Err.is)
    (free_answers (refusal (faults.number_of c.in-Err.fault) (faults.name_of c.in-Err.fault)) (λ done. next s) (next s) c.write_refusal.result
    (g.W.Sink.taken c.args.sink.now) (g.W.Sink.taken c.write_refusal.new.sink) c.args.steps.now (λ done. refl)
    (subst (Wrote c.write_refusal.result (g.W.Sink.taken c.args.sink.now) (g.W.Sink.taken c.write_refusal.new.sink))
    (refusal-is c.number.result (faults.number_of c.in-Err.fault) c.name.result.now (faults.name_of c.in-Err.fault) c.number.ensures c.name.ensures)
    c.write_refusal.ensures.tells.wrote))
