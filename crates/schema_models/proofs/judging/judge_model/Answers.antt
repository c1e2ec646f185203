use Rattle.std.proofs.Common.{subst}
use Rattle.schema_models.specs.Checks.{IsJudged}
use Rattle.schema_models.proofs.JudgeLaws.{judged-none, judged-some}
use Rattle.schema_models.proofs.judging.judge_model.Goals as goal

pub returns-in-Some : goal.returns-in-Some
returns-in-Some c =
    let s = c.args.source in
    judged-some s.names.now s.parts.now s.members.now c.args.id c.args.p c.requires.content c.in-Some.kind c.type_fault.result
    (subst (IsJudged s.names.now s.parts.now s.members.now c.args.p) c.in-Some.is c.in_ok-kind.ensures.judged) c.type_fault.ensures

pub returns-in-None : goal.returns-in-None
returns-in-None c =
    let s = c.args.source in
    judged-none s.names.now s.parts.now s.members.now c.args.id c.args.p c.requires.content
    (subst (IsJudged s.names.now s.parts.now s.members.now c.args.p) c.in-None.is c.in_ok-kind.ensures.judged)
