use Rattle.stream_answers.specs.inside.Turns.{no_block}
use Rattle.stream_answers.specs.inside.Turning.{spot_of}
use Rattle.stream_answers.specs.declared.place.Place.TheVariants as places
use Rattle.stream_answers.proofs.commands.answer_command.Goals as goal

pub returns-in-Ok-clause-takes : goal.returns-in-Ok-clause-takes
returns-in-Ok-clause-takes g c s next e = c.in-Ok.ensures.answers s (λ w. next (spot_of (places.Commands no_block) w)) e

pub returns-in-Err-clause-takes : goal.returns-in-Err-clause-takes
returns-in-Err-clause-takes g c s next e = c.in-Err.ensures.answers s (λ w. next (spot_of (places.Commands no_block) w)) e
