use Rattle.std.proofs.Common.{refl, sym, subst}
use Rattle.schema_compile.specs.Outcomes.{IsOutcome}
use Rattle.schema_compile.specs.declared.outcome.Outcome.{Outcome}
use Rattle.told.proofs.Saying.{free_answers}
use Rattle.told.specs.Going.{Answers, trace}
use Rattle.told.specs.Outcomes.{told_of}
use Rattle.open_document.specs.Held.{state_of}
use Rattle.open_document.specs.Replies.{set_refused, swapped_told}
use Rattle.open_document.proofs.Accepted.{accepted_usable}
use Rattle.open_document.proofs.swapping.answer_outcome.Goals as goal

pub answer_accepted-requires-clause-usable : goal.answer_accepted-requires-clause-usable
answer_accepted-requires-clause-usable g c =
    let q = c.requires.outcome in
    accepted_usable c.args.document.now.documents.items q.0 c.in-Accepted.set (subst (IsOutcome c.args.document.now.documents.items q.0) c.in-Accepted.is q.1)

pub answer_accepted-requires-clause-spaced : goal.answer_accepted-requires-clause-spaced
answer_accepted-requires-clause-spaced g c =
    let q = c.requires.outcome in
    c.wildcards_name_spaces_of_their_table.ensures c.args.document.now.documents.items q.0 c.in-Accepted.set
    (subst (IsOutcome c.args.document.now.documents.items q.0) c.in-Accepted.is q.1)

pub returns-in-Broken-clause-answers : goal.returns-in-Broken-clause-answers
returns-in-Broken-clause-answers g c = λ next.
    let s = state_of c.args.document.now in
    subst (λ (o : Outcome). Answers (swapped_told s next (told_of o)) c.refuse_set.result (trace (g.W.Sink.taken c.args.sink.now) c.args.steps.now)
    (trace (g.W.Sink.taken c.refuse_set.new.sink) c.args.steps.now) (λ done. next s)) (sym c.in-Broken.is)
    (free_answers (set_refused c.in-Broken.fault) (λ done. next s) (next s) c.refuse_set.result (g.W.Sink.taken c.args.sink.now) (g.W.Sink.taken c.refuse_set.new.sink) c.args.steps.now
    (λ done. refl) c.refuse_set.ensures.tells.wrote)

pub returns-in-Accepted-clause-answers : goal.returns-in-Accepted-clause-answers
returns-in-Accepted-clause-answers g c = λ next.
    let s = state_of c.args.document.now in
    subst (λ (o : Outcome). Answers (swapped_told s next (told_of o)) c.answer_accepted.result (trace (g.W.Sink.taken c.args.sink.now) c.args.steps.now)
    (trace (g.W.Sink.taken c.answer_accepted.new.sink) c.answer_accepted.new.steps) (λ done. next (state_of c.answer_accepted.new.document))) (sym c.in-Accepted.is)
    (c.answer_accepted.ensures.answers next)
