use Rattle.std.proofs.Common.{None, sym, subst, ◌∙◌}
use Rattle.schema_models.specs.SetModels.{AreContentsLimited}
use Rattle.schema_check.specs.Phases.{IsFirstOfPhases}
use Rattle.schema_check.specs.declared.documents.CompiledSet.{CompiledSet}
use Rattle.schema_compile.specs.Fit.{IsFit}
use Rattle.schema_compile.specs.inside.Finding.{early_phases, IsFound, AreContentsThere, IsJudged}
use Rattle.schema_compile.proofs.PhaseLaws.{none-found, of-same, broken-early}
use Rattle.schema_compile.proofs.judging.judge_found.Goals as goal

pub with_models-requires : goal.with_models-requires
with_models-requires c =
    let old = c.args.set.now in
    let same = sym c.first_fault.ensures.same in
    let limited = none-found (AreContentsLimited old.parts) _ c.in-None.is c.in_ok-fault.ensures.limited in
    let none = subst (IsFirstOfPhases (early_phases old)) c.in-None.is c.in_ok-fault.ensures.first in
    record {
      fit = subst IsFit same c.requires.fit;
      found = subst (λ (s : CompiledSet). IsFound s.parts c.args.found) same c.requires.found;
      there = subst (λ (s : CompiledSet). AreContentsThere s.parts) same c.requires.there;
      limited = subst (λ (s : CompiledSet). AreContentsLimited s.parts) same limited;
      none = subst (λ (s : CompiledSet). IsFirstOfPhases (early_phases s) None) same none;
    }

pub returns-in-Some : goal.returns-in-Some
returns-in-Some c =
    let old = c.args.set.now in
    record {
      judged = broken-early old c.in-Some.fault (subst (IsFirstOfPhases (early_phases old)) c.in-Some.is c.in_ok-fault.ensures.first);
      same = c.first_fault.ensures.same;
    }

pub returns-in-None : goal.returns-in-None
returns-in-None c = record {
  judged = of-same IsJudged c.args.set.now c.first_fault.new.set c.first_fault.ensures.same c.with_models.result c.with_models.ensures.judged;
  same = c.with_models.ensures.same ∙ c.first_fault.ensures.same;
}
