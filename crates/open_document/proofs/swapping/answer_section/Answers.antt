use Rattle.std.proofs.Common.{true, ◌-◌, subst}
use Rattle.schema_compile.specs.Outcomes.{IsOutcome}
use Rattle.told.proofs.Saying.{memory_breaks}
use Rattle.told.specs.Going.{trace}
use Rattle.open_document.specs.Held.{state_of}
use Rattle.open_document.specs.Replies.{swap_told}
use Rattle.open_document.proofs.Swapped.{known_answers}
use Rattle.open_document.proofs.swapping.answer_section.Goals as goal

pub answer_outcome-requires-clause-outcome : goal.answer_outcome-requires-clause-outcome
answer_outcome-requires-clause-outcome g c = (c.args.number - 1, subst (λ l. IsOutcome l (c.args.number - 1) c.in-Ok.outcome) c.as_slice.ensures.value c.in-Ok.ensures.outcome)

pub returns-in-Ok-clause-answers : goal.returns-in-Ok-clause-answers
returns-in-Ok-clause-answers g c = λ next.
    known_answers (state_of c.args.document.now) c.args.number next c.answer_outcome.result (g.W.Sink.taken c.args.sink.now) (g.W.Sink.taken c.answer_outcome.new.sink)
    c.args.steps.now c.answer_outcome.new.steps (state_of c.answer_outcome.new.document) c.in-Ok.outcome
    (subst (λ l. IsOutcome l (c.args.number - 1) c.in-Ok.outcome) c.as_slice.ensures.value c.in-Ok.ensures.outcome) (c.answer_outcome.ensures.answers next)

pub returns-in-Err-clause-answers : goal.returns-in-Err-clause-answers
returns-in-Err-clause-answers g c = λ next.
    memory_breaks (swap_told (state_of c.args.document.now) c.args.number true next) (trace (g.W.Sink.taken c.args.sink.now) c.args.steps.now)
