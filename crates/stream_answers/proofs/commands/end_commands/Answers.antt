use Rattle.std.proofs.Common.{Some, ap, sym, ◌∙◌}
use Rattle.told.proofs.Going.{goes_same}
use Rattle.told.proofs.Saying.{memory_breaks}
use Rattle.open_document.specs.declared.verdict.Verdict.{Verdict}
use Rattle.stream_answers.specs.inside.Turns.{ended}
use Rattle.stream_answers.specs.inside.Turning.{spot_of}
use Rattle.stream_answers.specs.declared.place.Place.{Place}
use Rattle.stream_answers.proofs.commands.end_commands.Goals as goal

pub returns-in-Ok-clause-takes : goal.returns-in-Ok-clause-takes
returns-in-Ok-clause-takes c s next stood taken n e =
    goes_same _ _ _
    (ap next (ap (λ (v : Verdict). ended (Some v)) (sym (c.verdict.ensures s e)) ∙ ap (λ (p : Place). spot_of p c.args.work.now) (sym c.in-Ok.ensures)))

pub returns-in-Err-clause-takes : goal.returns-in-Err-clause-takes
returns-in-Err-clause-takes c s next stood taken n e = memory_breaks _ _
