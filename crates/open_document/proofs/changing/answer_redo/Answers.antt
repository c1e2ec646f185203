use Rattle.std.proofs.Common.{Bool, Ok, ap, ◌∙◌}
use Rattle.open_document.specs.Held.{state_of}
use Rattle.open_document.specs.Replies.{no_future}
use Rattle.open_document.specs.Steps.{redo_of}
use Rattle.open_document.proofs.Stepping.{stepped_answers, unstepped_answers, broken_step}
use Rattle.open_document.proofs.changing.answer_redo.Goals as goal

pub returns-in-Ok-true-clause-answers : goal.returns-in-Ok-true-clause-answers
returns-in-Ok-true-clause-answers g c = λ next.
    let s = state_of c.args.document.now in
    stepped_answers s no_future next c.answer_made.result (g.W.Sink.taken c.args.sink.now) (g.W.Sink.taken c.answer_made.new.sink) c.args.steps.now c.redo.new.steps
    (redo_of s) c.redo.result (state_of c.redo.new.document) (c.in-Ok-true.is ∙ ap (λ (b : Bool). Ok b) c.in-Ok-true.field-0-test) c.redo.ensures.makes c.answer_made.ensures.wrote

pub returns-in-Ok-false-clause-answers : goal.returns-in-Ok-false-clause-answers
returns-in-Ok-false-clause-answers g c = λ next.
    let s = state_of c.args.document.now in
    unstepped_answers s no_future next c.write_refusal.result (g.W.Sink.taken c.args.sink.now) (g.W.Sink.taken c.write_refusal.new.sink) c.args.steps.now c.redo.new.steps
    (redo_of s) c.redo.result (state_of c.redo.new.document) (c.in-Ok-false.is ∙ ap (λ (b : Bool). Ok b) c.in-Ok-false.field-0-test) c.redo.ensures.makes c.write_refusal.ensures.tells.wrote

pub returns-in-Err-clause-answers : goal.returns-in-Err-clause-answers
returns-in-Err-clause-answers g c = λ next.
    let s = state_of c.args.document.now in
    broken_step s no_future next (redo_of s) c.redo.result c.in-Err.field-0 (state_of c.redo.new.document) (g.W.Sink.taken c.args.sink.now) c.args.steps.now c.redo.new.steps
    c.in-Err.is c.redo.ensures.makes
