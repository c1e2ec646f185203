use Rattle.std.proofs.Common.{ap, sym, ◌∙◌}
use Rattle.told.proofs.Going.{answers_as, goes_same}
use Rattle.stream_answers.specs.Refusals.{refusal_line, refusal_ending}
use Rattle.stream_answers.specs.inside.Turns.{document_turned}
use Rattle.stream_answers.specs.inside.Turning.{spot_of}
use Rattle.stream_answers.specs.declared.place.Place.TheVariants as places
use Rattle.stream_answers.proofs.Moved.{turn_ends}
use Rattle.stream_answers.proofs.Readers.{document_goes, document_edits, document_ends, document_stops}
use Rattle.stream_answers.proofs.document.answer_document.Goals as goal

pub returns-in-Goes-clause-takes : goal.returns-in-Goes-clause-takes
returns-in-Goes-clause-takes g c basis t r next e h =
    goes_same _ _ _
    (ap (λ u. document_turned c.args.wanted basis u next) (document_goes t r (rw c.in-Goes.is at h)) ∙ ap (λ w. next (spot_of (places.Document r) w)) (sym e))

pub returns-in-Edits-clause-takes : goal.returns-in-Edits-clause-takes
returns-in-Edits-clause-takes g c basis t r next e h =
    answers_as _ _ c.take_edits.result _ _ _
    (ap (λ u. document_turned c.args.wanted basis u next) (document_edits t c.in-Edits.tree r (rw c.in-Edits.is at h)))
    (c.take_edits.ensures.takes basis next (places.Document r) e)

pub returns-in-Ends-clause-takes : goal.returns-in-Ends-clause-takes
returns-in-Ends-clause-takes g c basis t r next e h =
    answers_as _ _ c.take_end.result _ _ _
    (ap (λ u. document_turned c.args.wanted basis u next) (document_ends t c.in-Ends.tree r (rw c.in-Ends.is at h)))
    (c.take_end.ensures.takes basis next (places.Document r) e)

pub returns-in-Refused-clause-takes : goal.returns-in-Refused-clause-takes
returns-in-Refused-clause-takes g c basis t r next e h =
    let spot = c.in-Refused.spot in
    answers_as _ _ c.refuse.result _ _ _
    (ap (λ u. document_turned c.args.wanted basis u next) (document_stops t spot r (rw c.in-Refused.is at h)))
    (turn_ends next (places.Document r) c.args.work.now (refusal_line spot.line spot.refusal) (refusal_ending spot.refusal) c.refuse.result _ _ c.args.steps.now
    c.refuse.ensures.tells.wrote c.refuse.ensures.ends)
