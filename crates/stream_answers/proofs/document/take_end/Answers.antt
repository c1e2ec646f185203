use Rattle.std.proofs.Common.{Some, refl}
use Rattle.open_document.specs.Answers.{verdict}
use Rattle.stream_answers.specs.inside.Turns.{document_ended}
use Rattle.stream_answers.specs.inside.Turning.{moved}
use Rattle.stream_answers.specs.declared.place.Place.TheVariants as places
use Rattle.stream_answers.proofs.Moved.{if_goes}
use Rattle.stream_answers.proofs.Opening.{opening_answers, opening_breaks}
use Rattle.stream_answers.proofs.document.take_end.Goals as goal

pub returns-in-Ok-clause-takes : goal.returns-in-Ok-clause-takes
returns-in-Ok-clause-takes g c basis next stood e =
    let h = c.in-Ok.ensures.opened basis e in
    opening_answers c.args.wanted basis c.args.tree (λ s. next (document_ended s)) c.open.new.self h c.end_document.result _ _ _ _ _
    (c.end_document.ensures.wrote h.document h.work_is) c.in-Ok.ensures.steps.later c.in-Ok.ensures.steps.few
    (if_goes next stood c.open.new.self c.end_document.result (places.Ended (Some (verdict h.document))) (document_ended h.document)
    refl (c.end_document.ensures.goes h.document h.work_is))

pub returns-in-Err-clause-takes : goal.returns-in-Err-clause-takes
returns-in-Err-clause-takes g c basis next stood e =
    opening_breaks c.args.wanted basis c.args.tree (λ s. next (document_ended s)) _ _ _ (moved next stood c.open.new.self) c.in-Err.ensures.steps.later c.in-Err.ensures.steps.few
