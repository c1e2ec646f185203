use Rattle.std.proofs.Common.{sym, subst, ◌∙◌}
use Rattle.schema_check.specs.declared.documents.CompiledSet.{CompiledSet}
use Rattle.schema_compile.specs.Fit.{IsFit}
use Rattle.schema_compile.specs.inside.Finding.{IsFound, AreContentsThere, IsJudged}
use Rattle.schema_compile.proofs.PhaseLaws.{of-same}
use Rattle.schema_compile.proofs.judging.judge.Goals as goal

pub judge_found-requires : goal.judge_found-requires
judge_found-requires c =
    let same = sym c.find.ensures.same in
    record {
      fit = subst IsFit same c.requires.fit;
      found = subst (λ (s : CompiledSet). IsFound s.parts c.in_ok-found.found) same c.in_ok-found.ensures.found;
      there = subst (λ (s : CompiledSet). AreContentsThere s.parts) same c.contents_are_there.ensures.there;
    }

pub returns : goal.returns
returns c = record {
  judged = of-same IsJudged c.args.set.now c.find.new.set c.find.ensures.same c.judge_found.result c.judge_found.ensures.judged;
  same = c.judge_found.ensures.same ∙ c.find.ensures.same;
}
