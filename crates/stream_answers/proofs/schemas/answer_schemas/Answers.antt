use Rattle.std.proofs.Common.{ap}
use Rattle.told.proofs.Going.{answers_as, goes_same}
use Rattle.stream_answers.specs.Refusals.{refusal_line, refusal_ending}
use Rattle.stream_answers.specs.inside.Turns.{schemas_turned}
use Rattle.stream_answers.specs.declared.place.Place.TheVariants as places
use Rattle.stream_answers.proofs.Moved.{turn_ends}
use Rattle.stream_answers.proofs.Readers.{schemas_go, schemas_end, schemas_stop}
use Rattle.stream_answers.proofs.schemas.answer_schemas.Goals as goal

pub returns-in-Goes-clause-takes : goal.returns-in-Goes-clause-takes
returns-in-Goes-clause-takes g c t r n next h =
    goes_same _ _ _ (ap (λ u. schemas_turned c.args.asked c.args.line u next) (schemas_go t r (rw c.in-Goes.is at h)))

pub returns-in-Ends-clause-takes : goal.returns-in-Ends-clause-takes
returns-in-Ends-clause-takes g c t r n next h =
    answers_as _ _ c.end_schemas.result _ _ _
    (ap (λ u. schemas_turned c.args.asked c.args.line u next) (schemas_end t c.in-Ends.sections r (rw c.in-Ends.is at h)))
    (c.end_schemas.ensures.takes n next (places.Schemas r))

pub returns-in-Refused-clause-takes : goal.returns-in-Refused-clause-takes
returns-in-Refused-clause-takes g c t r n next h =
    let spot = c.in-Refused.spot in
    answers_as _ _ c.refuse.result _ _ _
    (ap (λ u. schemas_turned c.args.asked c.args.line u next) (schemas_stop t spot r (rw c.in-Refused.is at h)))
    (turn_ends next (places.Schemas r) c.args.work.now (refusal_line spot.line spot.refusal) (refusal_ending spot.refusal) c.refuse.result _ _ n
    c.refuse.ensures.tells.wrote c.refuse.ensures.ends)
