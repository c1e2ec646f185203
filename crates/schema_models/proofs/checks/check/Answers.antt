use Rattle.std.proofs.Common.{subst}
use Rattle.std.specs.Prelude.{IfOk}
use Rattle.content_models.specs.Built.{IsBuilt, HasRoom}
use Rattle.schema_models.specs.Checks.{IsJudged}
use Rattle.schema_models.proofs.CheckLaws.{found-first}
use Rattle.schema_models.proofs.checks.check.Goals as goal

pub returns-in-Some-clause-refused : goal.returns-in-Some-clause-refused
returns-in-Some-clause-refused c =
    let s = c.args.source in
    let built = subst (λ r. IfOk r (IsBuilt s.names.now s.parts.now s.members.now s.classes.now c.args.p)) c.in-Ok.is c.in_ok-error.ensures.automaton in
    let room = subst (λ r. IfOk r (HasRoom s.names.now s.parts.now s.members.now c.args.p c.args.cells_left)) c.in-Ok.is c.in_ok-error.ensures.room in
    let found = subst (IsJudged s.names.now s.parts.now s.members.now c.args.p) c.in-Some.is c.in_ok-fault-in-Ok.ensures.judged in
    found-first s.names.now s.parts.now s.members.now c.args.p s.classes.now c.args.cells_left c.in-Ok.automaton built room c.in-Some.fault found
