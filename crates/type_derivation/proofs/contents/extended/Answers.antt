use Rattle.std.proofs.Common.{Some, subst}
use Rattle.std.specs.Prelude.{IfSome}
use Rattle.component_references.specs.References.{IsPart}
use Rattle.type_derivation.proofs.GrowLaws.{adds-none}
use Rattle.type_derivation.proofs.contents.extended.Goals as goal

pub returns-in_default-clause-added : goal.returns-in_default-clause-added
returns-in_default-clause-added c = adds-none c.args.parts.now c.requires.ranked c.args.effective c.requires.effective

pub returns-in-None-clause-added : goal.returns-in-None-clause-added
returns-in-None-clause-added c =
    adds-none c.args.parts.now c.requires.ranked (Some c.in-Some.base) (subst (λ o. IfSome o (IsPart c.args.parts.now.particles)) c.in-Some.is c.requires.inner)
