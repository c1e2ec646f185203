use Rattle.std.proofs.Common.{subst, sym}
use Rattle.xs_codes.specs.Least.{IsLeast}
use Rattle.schema_models.specs.SetModels.{IsBroken}
use Rattle.schema_models.proofs.JudgeLaws.{whole, models-right}
use Rattle.schema_models.proofs.whole.build_and_judge.Goals as goal

pub judge_all-requires-clause-made : goal.judge_all-requires-clause-made
judge_all-requires-clause-made c = c.in_ok-limit.ensures.made

pub returns-clause-least : goal.returns-clause-least
returns-clause-least c =
    let s = c.args.source in
    subst (IsLeast (IsBroken s.names.now s.parts.now s.members.now s.classes.now)) (sym c.sooner.ensures.sooner)
    (whole s.names.now s.parts.now s.members.now s.classes.now c.fill.new.models c.in_ok-limit.limit c.in_ok-broken.broken c.in_ok-limit.ensures c.in_ok-broken.ensures)

pub returns-clause-models : goal.returns-clause-models
returns-clause-models c =
    let s = c.args.source in
    models-right s.names.now s.parts.now s.members.now s.classes.now c.fill.new.models c.in_ok-limit.limit c.in_ok-broken.broken c.in_ok-limit.ensures c.in_ok-broken.ensures c.sooner.result (sym c.sooner.ensures.sooner)
