use Rattle.std.proofs.Common.{inl, Option, sym, subst, ◌∙◌}
use Rattle.std.specs.Prelude.{IfNone}
use Rattle.xs_codes.specs.declared.fault.Fault.{Fault}
use Rattle.schema_models.specs.SetModels.{AreContentsLimited}
use Rattle.schema_check.specs.declared.documents.CompiledSet.{CompiledSet}
use Rattle.schema_compile.specs.Fit.{IsFit}
use Rattle.schema_compile.specs.Outcomes.{attr_phase}
use Rattle.schema_compile.specs.inside.Finding.{IsFound, AreContentsThere}
use Rattle.schema_compile.proofs.PhaseLaws.{behind-attrs, of-same}
use Rattle.schema_compile.proofs.faults.first_fault.Goals as goal

pub derivation_fault-requires : goal.derivation_fault-requires
derivation_fault-requires c =
    let same = sym c.attr_fault.ensures.same in
    record {
      fit = subst IsFit same c.requires.fit;
      found = subst (λ (s : CompiledSet). IsFound s.parts c.args.found.now) same c.requires.found;
      there = subst (λ (s : CompiledSet). AreContentsThere s.parts) same c.requires.there;
    }

pub returns-in-Some : goal.returns-in-Some
returns-in-Some c = record {
  first = inl (subst (attr_phase c.args.set.now) c.in-Some.is c.in_ok-fault.ensures.least);
  limited = tt;
  same = c.attr_fault.ensures.same;
}

pub returns-in-None : goal.returns-in-None
returns-in-None c =
    let old = c.args.set.now in
    let new = c.attr_fault.new.set in
    let same = c.attr_fault.ensures.same in
    record {
      first = behind-attrs old new same (subst (attr_phase old) c.in-None.is c.in_ok-fault.ensures.least) c.derivation_fault.result c.derivation_fault.ensures.least;
      limited = of-same (λ (s : CompiledSet) (f : Option Fault). IfNone f (AreContentsLimited s.parts)) old new same c.derivation_fault.result c.derivation_fault.ensures.limited;
      same = c.derivation_fault.ensures.same ∙ same;
    }
