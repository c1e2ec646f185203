use Rattle.std.proofs.Common.{refl, ap, sym, subst, ◌∙◌, le_refl}
use Rattle.told.specs.Going.{trace, Answers}
use Rattle.told.proofs.Going.{answers_as, goes_same}
use Rattle.open_document.specs.Answers.{command_told}
use Rattle.stream_sections.specs.declared.commands.CommandReader.{CommandReader}
use Rattle.stream_answers.specs.Refusals.{refusal_line, refusal_ending}
use Rattle.stream_answers.specs.inside.Turns.{commands, commands_turned, no_block}
use Rattle.stream_answers.specs.inside.Turning.{spot_of, moved}
use Rattle.stream_answers.specs.declared.place.Place.TheVariants as places
use Rattle.stream_answers.proofs.Moved.{turn_ends}
use Rattle.stream_answers.proofs.Readers.{commands_go, commands_give, commands_end, commands_stop}
use Rattle.stream_answers.proofs.commands.answer_commands.Goals as goal

pub returns-in-Goes-clause-takes : goal.returns-in-Goes-clause-takes
returns-in-Goes-clause-takes g c s t r next e h =
    goes_same _ _ _
    (ap (λ u. commands_turned s u next) (commands_go t r (rw c.in-Goes.is at h)) ∙ ap (λ w. next (spot_of (places.Commands r) w)) (sym e))

pub returns-in-Gives-clause-takes : goal.returns-in-Gives-clause-takes
returns-in-Gives-clause-takes g c s t r next e h =
    let given = commands_give t c.in-Gives.command c.in-Gives.block r (rw c.in-Gives.is at h) in
    let a = trace (g.W.Sink.taken c.args.sink.now) c.args.steps.now in
    let b = trace (g.W.Sink.taken c.answer_command.new.sink) c.answer_command.new.steps in
    let t = command_told s c.in-Gives.command c.in-Gives.block (λ q. next (commands q no_block)) in
    answers_as _ _ c.answer_command.result _ _ _
    (ap (λ u. commands_turned s u next) given.0)
    (subst (λ (q : CommandReader). Answers t c.answer_command.result a b (moved next (places.Commands q) c.answer_command.new.work)) (sym given.1)
    (c.answer_command.ensures.takes s next e))

pub returns-in-Ends-clause-takes : goal.returns-in-Ends-clause-takes
returns-in-Ends-clause-takes g c s t r next e h =
    answers_as _ _ c.end_commands.result _ _ _
    (ap (λ u. commands_turned s u next) (commands_end t r (rw c.in-Ends.is at h)))
    (c.end_commands.ensures.takes s next (places.Commands r) _ c.args.steps.now e)

pub returns-in-Refused-clause-takes : goal.returns-in-Refused-clause-takes
returns-in-Refused-clause-takes g c s t r next e h =
    let spot = c.in-Refused.spot in
    answers_as _ _ c.refuse.result _ _ _
    (ap (λ u. commands_turned s u next) (commands_stop t spot r (rw c.in-Refused.is at h)))
    (turn_ends next (places.Commands r) c.args.work.now (refusal_line spot.line spot.refusal) (refusal_ending spot.refusal) c.refuse.result _ _ c.args.steps.now
    c.refuse.ensures.tells.wrote c.refuse.ensures.ends)

pub returns-in-Ends-clause-writes : goal.returns-in-Ends-clause-writes
returns-in-Ends-clause-writes g c = record { later = le_refl (g.W.Sink.faults c.args.sink.now); kept = refl; rose = λ h. absurd (c.end_commands.ensures.no_fault h) }
