use Rattle.std.proofs.Common.{Option, refl, sym, ◌∙◌, subst}
use Rattle.told.proofs.Saying.{free_answers}
use Rattle.told.specs.Going.{Answers, trace}
use Rattle.open_document.specs.Held.{state_of}
use Rattle.open_document.specs.Replies.{turn_refusal, turn_told}
use Rattle.open_document.specs.declared.touches.TurnFault.{TurnFault}
use Rattle.open_document.proofs.turning.answer_turn.Goals as goal

pub returns-in-Some-clause-answers : goal.returns-in-Some-clause-answers
returns-in-Some-clause-answers g c = λ next.
    let s = state_of c.args.document.now in
    subst (λ (fault : Option TurnFault). Answers (turn_told s c.args.author c.args.edit.now fault next) c.refuse_turn.result (trace (g.W.Sink.taken c.args.sink.now) c.args.steps.now)
    (trace (g.W.Sink.taken c.refuse_turn.new.sink) c.args.steps.now) (λ done. next s)) (sym c.in-Some.is ∙ c.turn_fault.ensures)
    (free_answers (turn_refusal c.in-Some.fault) (λ done. next s) (next s) c.refuse_turn.result (g.W.Sink.taken c.args.sink.now) (g.W.Sink.taken c.refuse_turn.new.sink) c.args.steps.now
    (λ done. refl) c.refuse_turn.ensures.tells.wrote)

pub returns-in-None-clause-answers : goal.returns-in-None-clause-answers
returns-in-None-clause-answers g c = λ next.
    let s = state_of c.args.document.now in
    subst (λ (fault : Option TurnFault). Answers (turn_told s c.args.author c.args.edit.now fault next) c.answer_change.result (trace (g.W.Sink.taken c.args.sink.now) c.args.steps.now)
    (trace (g.W.Sink.taken c.answer_change.new.sink) c.answer_change.new.steps) (λ done. next (state_of c.answer_change.new.document))) (sym c.in-None.is ∙ c.turn_fault.ensures)
    (c.answer_change.ensures.answers next)
