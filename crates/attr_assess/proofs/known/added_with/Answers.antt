use Rattle.std.proofs.Common.{List, ℕ, Some, subst}
use Rattle.std.specs.Prelude.{IfOk}
use Rattle.assess_records.specs.declared.outcome.ValueSource.TheVariants.{Schema}
use Rattle.attr_assess.specs.declared.governing.AttrGoverning.TheVariants.{Declared}
use Rattle.attr_assess.specs.Records.{IsAttrJudged}
use Rattle.attr_assess.proofs.known.added_with.Goals as goal

pub returns-clause-judged : goal.returns-clause-judged
returns-clause-judged c =
    let found = c.args.found.now in
    subst (λ (text : List ℕ). IfOk c.judge.result (IsAttrJudged c.args.parts.now found.decl.now.name Schema c.args.constraint.now.scope text (Declared found.part.now.attribute (Some found.at))))
    c.as_str.ensures c.judge.ensures.judged
