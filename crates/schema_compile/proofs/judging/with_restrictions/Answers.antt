use Rattle.std.proofs.Common.{Ok, None, sym, subst}
use Rattle.schema_check.specs.Phases.{IsFirstOfPhases}
use Rattle.schema_check.specs.declared.documents.CompiledSet.{CompiledSet}
use Rattle.schema_compile.specs.inside.Finding.{early_phases, IsFound, AreModelsOf, AreContentsThere, IsJudged}
use Rattle.schema_compile.specs.Outcomes.{restriction_phase}
use Rattle.schema_compile.proofs.PhaseLaws.{broken-restriction, of-same}
use Rattle.schema_compile.proofs.judging.with_restrictions.Goals as goal

pub returns-in-Some : goal.returns-in-Some
returns-in-Some c =
    let made = c.args.set.now in
    record {
      judged = broken-restriction made c.args.found c.requires.found c.requires.none c.args.models c.requires.models c.in-Some.fault (subst (restriction_phase made) c.in-Some.is c.in_ok-fault.ensures.first);
      same = c.restriction_fault.ensures.same;
    }

pub with_identities-requires : goal.with_identities-requires
with_identities-requires c =
    let old = c.args.set.now in
    let same = sym c.restriction_fault.ensures.same in
    let none = subst (restriction_phase old) c.in-None.is c.in_ok-fault.ensures.first in
    record {
      found = subst (λ (s : CompiledSet). IsFound s.parts c.args.found) same c.requires.found;
      there = subst (λ (s : CompiledSet). AreContentsThere s.parts) same c.requires.there;
      none = subst (λ (s : CompiledSet). IsFirstOfPhases (early_phases s) None) same c.requires.none;
      models = subst (λ (s : CompiledSet). AreModelsOf s c.args.found (Ok c.args.models)) same c.requires.models;
      restricted = subst (λ (s : CompiledSet). restriction_phase s None) same none;
    }

pub returns-in-None : goal.returns-in-None
returns-in-None c = record {
  judged = of-same IsJudged c.args.set.now c.restriction_fault.new.set c.restriction_fault.ensures.same c.with_identities.result c.with_identities.ensures.judged;
  same = c.restriction_fault.ensures.same;
}
