use Rattle.std.proofs.Common.{inl, Option, subst}
use Rattle.xs_codes.specs.declared.fault.Fault.{Fault}
use Rattle.schema_check.specs.inside.Typed.{IsComposed}
use Rattle.schema_check.proofs.CompilationLaws.{composed}
use Rattle.schema_check.proofs.compiling.compile_closed.Goals as goal

pub returns-in-Some : goal.returns-in-Some
returns-in-Some c = inl (subst (λ (o : Option Fault). IsComposed c.args.available.now c.args.start o) c.in-Some.is c.in_ok-found.ensures)

pub returns-in-None : goal.returns-in-None
returns-in-None c =
    composed c.compile_composed.result c.args.available.now c.args.start c.args.closed.now.set.documents
    (subst (λ (o : Option Fault). IsComposed c.args.available.now c.args.start o) c.in-None.is c.in_ok-found.ensures) c.compile_composed.ensures
