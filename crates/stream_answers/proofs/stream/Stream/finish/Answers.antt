use Rattle.std.proofs.Common.{ap, ◌∙◌}
use Rattle.told.proofs.Going.{ends_as, goes_same}
use Rattle.told.proofs.Saying.{free_ends}
use Rattle.stream_sections.specs.Sections.{no_end}
use Rattle.stream_answers.specs.Output.{end_line, ending_of, stop_told, verdict_told}
use Rattle.stream_answers.specs.inside.Turns.{end_told}
use Rattle.stream_answers.proofs.Standing.{unended, unended_by, ended_is}
use Rattle.stream_answers.proofs.stream.Stream.finish.Goals as goal

pub returns-in-Ended-None-clause-ends : goal.returns-in-Ended-None-clause-ends
returns-in-Ended-None-clause-ends g c n =
    goes_same _ _ _ (ended_is c.args.lines c.args.self.now.place c.args.self.now.work c.in-Ended-None.field-0 c.in-Ended-None.is ∙ ap end_told (rw c.in-Ended-None.is at c.in-Ended-None.field-0-is))

pub returns-in-Ended-Some-clause-ends : goal.returns-in-Ended-Some-clause-ends
returns-in-Ended-Some-clause-ends g c n =
    let v = c.in-Ended-Some.verdict in
    ends_as _ (verdict_told v) c.write_verdict.result _ _
    (ended_is c.args.lines c.args.self.now.place c.args.self.now.work c.in-Ended-Some.field-0 c.in-Ended-Some.is ∙ ap end_told (rw c.in-Ended-Some.is at c.in-Ended-Some.field-0-is))
    (free_ends (end_line v) (ending_of v.validity) c.write_verdict.result _ _ n c.write_verdict.ensures.ending c.write_verdict.ensures.tells.wrote)

pub returns-in-Schemas-clause-ends : goal.returns-in-Schemas-clause-ends
returns-in-Schemas-clause-ends g c n =
    let p = c.args.self.now.place in
    ends_as _ (stop_told (no_end c.args.lines)) c.write_refusal.result _ _
    (unended c.args.lines p c.args.self.now.work c.requires (unended_by p c.in-Schemas.is))
    (free_ends _ _ c.write_refusal.result _ _ n c.write_refusal.ensures.ending c.write_refusal.ensures.tells.wrote)
