use Rattle.derive_faults.specs.Elements.{BreaksValue}
use Rattle.derive_faults.proofs.CodeLaws.{constraint-in}
use Rattle.derive_faults.proofs.elements.decl_code.Goals as goal

pub returns-in-Some-clause-first : goal.returns-in-Some-clause-first
returns-in-Some-clause-first c =
    constraint-in (BreaksValue c.args.set.now.parts.now c.args.of.now) c.args.part.now.value c.in-Some.constraint c.in-Some.is c.value_code.result c.value_code.ensures.first
