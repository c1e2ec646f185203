use Rattle.std.proofs.Common.{subst}
use Rattle.schema_compile.specs.inside.Finding.{IsJudged}
use Rattle.schema_compile.proofs.compiling.outcome_of.Goals as goal

pub accepted-requires-clause-judged : goal.accepted-requires-clause-judged
accepted-requires-clause-judged c = subst (IsJudged c.args.set) c.in-Ok.is c.requires.judged
