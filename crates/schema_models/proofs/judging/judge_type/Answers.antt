use Rattle.std.proofs.Common.{sym, ap}
use Rattle.std.specs.Option.{option_and_then}
use Rattle.schema_models.proofs.JudgeLaws.{built-is, told-with}
use Rattle.schema_models.proofs.judging.judge_type.Goals as goal

pub judge_model-requires-clause-there : goal.judge_model-requires-clause-there
judge_model-requires-clause-there c = (c.requires.contents c.args.id c.in-Some-content.p (ap (option_and_then (λ x. x)) c.in-Some-content.ensures.content)).0

pub judge_model-requires-clause-built : goal.judge_model-requires-clause-built
judge_model-requires-clause-built c =
    let s = c.args.source in
    built-is s.names.now s.parts.now s.members.now s.classes.now c.args.models.now c.requires.made c.args.id c.in-Some-content.p c.in-Some.automaton.now (sym c.in-Some.ensures)
    (ap (option_and_then (λ x. x)) c.in-Some-content.ensures.content)

pub returns-in-Some-content : goal.returns-in-Some-content
returns-in-Some-content c =
    let s = c.args.source in
    told-with s.names.now s.parts.now s.members.now c.args.models.now c.args.id c.in-Some.automaton.now (sym c.in-Some.ensures) c.judge_model.result c.judge_model.ensures
