use Rattle.std.proofs.Common.{◌≢◌, Result, Err, rules, refl, sym, subst}
use Rattle.edit_session.specs.Around as around
use Rattle.edit_session.specs.Around.{asked_at}
use Rattle.edit_session.specs.declared.around.AroundError.{AroundError}
use Rattle.edit_session.specs.declared.around.AroundError.TheVariants as errors
use Rattle.kept_next.specs.Answers.{PlaceQuestion}
use Rattle.told.proofs.Saying.{free_answers, memory_breaks}
use Rattle.told.specs.Going.{Answers, trace}
use Rattle.told.specs.Tells.{Wrote}
use Rattle.open_document.proofs.Edits.{refusal-is}
use Rattle.open_document.specs.Held.{state_of}
use Rattle.open_document.specs.Replies.{child_count, next_told, refusal}
use Rattle.open_document.proofs.next.answer_next.Goals as goal

pub tell_names-requires-clause-around : goal.tell_names-requires-clause-around
tell_names-requires-clause-around g c = (c.args.node, c.args.index, c.in-Ok.ensures.place)

pub returns-in-Ok-clause-answers : goal.returns-in-Ok-clause-answers
returns-in-Ok-clause-answers g c = λ next. c.tell_names.ensures.answers c.args.node c.args.index next c.in-Ok.ensures.place

pub returns-in-Err-Memory-clause-answers : goal.returns-in-Err-Memory-clause-answers
returns-in-Err-Memory-clause-answers g c = λ next.
    let s = state_of c.args.document.now in
    memory_breaks (next_told s (child_count s.session c.args.node) (asked_at s.session c.args.node c.args.index) next) (trace (g.W.Sink.taken c.args.sink.now) c.args.steps.now)

pub returns-in-Err-clause-answers : goal.returns-in-Err-clause-answers
returns-in-Err-clause-answers g c = λ next.
    let s = state_of c.args.document.now in
    let old = g.W.Sink.taken c.args.sink.now in
    let new = g.W.Sink.taken c.write_refusal.new.sink in
    let refuses : c.in-Err.refusal ≢ errors.Memory = search rules in
    let refused = c.in-Err.ensures.refused refuses in
    subst (λ (a : Result PlaceQuestion AroundError). Answers (next_told s (child_count s.session c.args.node) a next) c.write_refusal.result (trace old c.args.steps.now) (trace new c.args.steps.now) (λ done. next s))
    (sym refused)
    (free_answers (refusal (around.number_of c.in-Err.refusal) (around.name_of c.in-Err.refusal)) (λ done. next s) (next s) c.write_refusal.result old new c.args.steps.now (λ done. refl)
    (subst (Wrote c.write_refusal.result old new)
    (refusal-is c.number.result (around.number_of c.in-Err.refusal) c.name.result.now (around.name_of c.in-Err.refusal) c.number.ensures c.name.ensures)
    c.write_refusal.ensures.tells.wrote))
