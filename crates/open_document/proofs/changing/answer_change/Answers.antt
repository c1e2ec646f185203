use Rattle.std.proofs.Common.{ap, subst}
use Rattle.tree_edits.specs.Refusals as refusals
use Rattle.session_model.specs.State.{State}
use Rattle.told.specs.Tells.{Wrote}
use Rattle.open_document.specs.Held.{state_of}
use Rattle.open_document.proofs.Edits.{refusal-is, made_answers, refused_answers, broken_answers, refused_of, memory_of}
use Rattle.open_document.proofs.Logging.{left_same}
use Rattle.open_document.proofs.changing.answer_change.Goals as goal

pub answer_made-requires : goal.answer_made-requires
answer_made-requires g c = ap (λ (x : State). x.closed) c.in-Ok.ensures.applies.new_is

pub returns-in-Ok-clause-answers : goal.returns-in-Ok-clause-answers
returns-in-Ok-clause-answers g c = λ next.
    made_answers (state_of c.args.document.now) c.args.author c.args.edit.now next c.answer_made.result (g.W.Sink.taken c.args.sink.now) (g.W.Sink.taken c.answer_made.new.sink)
    c.args.steps.now c.change.new.steps (state_of c.change.new.document) c.in-Ok.ensures.applies c.in-Ok.ensures.behind c.answer_made.ensures.wrote c.in-Ok.ensures.spends

pub returns-in-Err-Refused-clause-answers : goal.returns-in-Err-Refused-clause-answers
returns-in-Err-Refused-clause-answers g c = λ next.
    let x = c.args.document.now in
    let y = c.change.new.document in
    let gone = refused_of x.session c.args.edit.now y.session c.args.steps.now c.change.new.steps c.in-Err-Refused.field-0 c.in-Err-Refused.refused c.in-Err-Refused.field-0-is
    c.in-Err-Refused.ensures.applies c.in-Err-Refused.ensures.spends in
    let same = left_same x y c.in-Err-Refused.ensures.alone gone.1 in
    refused_answers (state_of x) c.args.author c.args.edit.now next c.write_refusal.result (g.W.Sink.taken c.args.sink.now) (g.W.Sink.taken c.write_refusal.new.sink)
    c.args.steps.now c.change.new.steps c.in-Err-Refused.refused (state_of y) gone.0 same gone.2
    (subst (Wrote c.write_refusal.result (g.W.Sink.taken c.args.sink.now) (g.W.Sink.taken c.write_refusal.new.sink))
    (refusal-is c.number.result (refusals.number_of c.in-Err-Refused.refused) c.name.result.now (refusals.name_of c.in-Err-Refused.refused) c.number.ensures c.name.ensures)
    c.write_refusal.ensures.tells.wrote)

pub returns-in-Err-Memory-clause-answers : goal.returns-in-Err-Memory-clause-answers
returns-in-Err-Memory-clause-answers g c = λ next.
    let x = c.args.document.now in
    let y = c.change.new.document in
    broken_answers (state_of x) c.args.author c.args.edit.now next (g.W.Sink.taken c.args.sink.now) c.args.steps.now c.change.new.steps
    (memory_of x.session c.args.edit.now y.session c.args.steps.now c.change.new.steps c.in-Err-Memory.field-0 c.in-Err-Memory.field-0-is c.in-Err-Memory.ensures.spends)
