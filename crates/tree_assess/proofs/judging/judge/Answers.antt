use Rattle.std.proofs.Common.{subst, sym}
use Rattle.compiled_schema.specs.Usable.{set_of}
use Rattle.assessment.specs.Assessment.{AreJudged}
use Rattle.tree_assess.specs.Entries.{entry_of}
use Rattle.tree_assess.proofs.judging.judge.Goals as goal

pub returns-clause-judged : goal.returns-clause-judged
returns-clause-judged c = subst (λ entry. AreJudged (set_of c.args.compiled.now) c.args.shape.now (entry_of entry)) (sym c.entry_by.ensures) c.in_ok-judged.ensures.judged
