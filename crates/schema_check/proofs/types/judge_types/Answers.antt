use Rattle.std.proofs.Common.{Option, inl, subst}
use Rattle.std.specs.Prelude.{IfNone}
use Rattle.xs_codes.specs.declared.fault.Fault.{Fault}
use Rattle.xs_codes.specs.Least.{IsLeast}
use Rattle.component_references.specs.Ranked.{IsRanked}
use Rattle.type_derivation.specs.Cycles.{IsBroken}
use Rattle.schema_check.proofs.TypedLaws.{types-judged}
use Rattle.schema_check.proofs.types.judge_types.Goals as goal

pub build-requires : goal.build-requires
build-requires c = record { ranked = subst (λ (o : Option Fault). IfNone o (IsRanked c.cycles.new.parts)) c.in-None.is c.in_ok-found.ensures.ranked }

pub returns-in-Some : goal.returns-in-Some
returns-in-Some c = inl (subst (λ (o : Option Fault). IsLeast (IsBroken c.args.parts.now) o) c.in-Some.is c.in_ok-found.ensures.least)

pub returns-in_ok-types-in-None : goal.returns-in_ok-types-in-None
returns-in_ok-types-in-None c = types-judged c.args.parts.now c.cycles.new.parts c.in_ok-found.found c.in-None.is c.in_ok-found.ensures.least c.in_ok-found.ensures.ranked
    c.in_ok-found.ensures.contents c.in_ok-found.ensures.tables c.in_ok-types-in-None.types c.in_ok-types-in-None.ensures
