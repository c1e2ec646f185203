use Rattle.std.proofs.Common.{List, Option, sym, subst}
use Rattle.xs_codes.specs.declared.fault.Fault.{Fault}
use Rattle.xs_codes.proofs.LeastLaws.{least-sum}
use Rattle.schema_set.specs.declared.documents.SetDocument.{SetDocument}
use Rattle.schema_set.specs.EffectiveSet.{IsEffectiveSet}
use Rattle.schema_set.specs.Composition.{Broken as IsCompositionFault}
use Rattle.redefine_faults.specs.Redefinitions.{IsRedefineFault}
use Rattle.schema_check.specs.inside.Typed.{IsComposed}
use Rattle.schema_check.proofs.compiling.composition_fault.Goals as goal

pub returns : goal.returns
returns c =
    let available = c.args.available.now in
    let start = c.args.start in
    let set = subst (λ (l : List SetDocument). IsEffectiveSet available start l) (sym c.as_slice.ensures) c.requires.set in
    subst (λ (o : Option Fault). IsComposed available start o) (sym c.sooner.ensures.sooner)
    (least-sum (IsCompositionFault available start) (IsRedefineFault available start) c.args.closed.now.fault c.in_ok-found.found c.requires.least (c.in_ok-found.ensures.least start set))
