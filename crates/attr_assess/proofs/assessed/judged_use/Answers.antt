use Rattle.attr_assess.specs.inside.Lists.{IsUseJudged}
use Rattle.attr_assess.proofs.KnownLaws.{ok-same, known-there, known-judged}
use Rattle.attr_assess.proofs.assessed.judged_use.Goals as goal

pub returns-in-Some-clause-judged : goal.returns-in-Some-clause-judged
returns-in-Some-clause-judged c =
    let t = c.args.schema.now.parts.now in
    let added = c.args.added.now in
    let judged = c.in-Some.judged.now in
    ok-same c.again.result judged (IsUseJudged t added) c.again.ensures
    (known-judged t added judged c.requires.written (known-there t c.args.schema.now.known.now c.requires.known added.at judged c.in-Some.ensures.known))
