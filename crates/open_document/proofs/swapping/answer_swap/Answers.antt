use Rattle.std.proofs.Common.{Bool, sym, ap, ◌∙◌, subst}
use Rattle.told.specs.Going.{Answers, trace}
use Rattle.open_document.specs.Held.{state_of}
use Rattle.open_document.specs.Replies.{is_section, swap_told}
use Rattle.open_document.proofs.Swapped.{unknown_answers}
use Rattle.open_document.proofs.swapping.answer_swap.Goals as goal

pub answer_section-requires-clause-there : goal.answer_section-requires-clause-there
answer_section-requires-clause-there g c = sym (c.if-has_section.ensures ∙ ap (λ l. is_section l c.args.number) c.as_slice.ensures.value)

pub returns-then-has_section-clause-answers : goal.returns-then-has_section-clause-answers
returns-then-has_section-clause-answers g c = λ next.
    subst (λ (b : Bool). Answers (swap_told (state_of c.args.document.now) c.args.number b next) c.answer_section.result (trace (g.W.Sink.taken c.args.sink.now) c.args.steps.now)
    (trace (g.W.Sink.taken c.answer_section.new.sink) c.answer_section.new.steps) (λ done. next (state_of c.answer_section.new.document)))
    (c.if-has_section.ensures ∙ ap (λ l. is_section l c.args.number) c.as_slice.ensures.value) (c.answer_section.ensures.answers next)

pub returns-else-has_section-clause-answers : goal.returns-else-has_section-clause-answers
returns-else-has_section-clause-answers g c = λ next.
    let s = state_of c.args.document.now in
    unknown_answers s c.args.number next c.write_refusal.result (g.W.Sink.taken c.args.sink.now) (g.W.Sink.taken c.write_refusal.new.sink) c.args.steps.now c.args.steps.now s
    (is_section c.args.document.now.documents.items c.args.number) (sym (c.if-has_section.ensures ∙ ap (λ l. is_section l c.args.number) c.as_slice.ensures.value)) c.write_refusal.ensures.tells.wrote
