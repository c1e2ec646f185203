use Rattle.derive_faults.specs.Attributes.{BreaksValue}
use Rattle.derive_faults.proofs.CodeLaws.{constraint-in}
use Rattle.derive_faults.proofs.attributes.decl_code.Goals as goal

pub returns-in-Some-clause-first : goal.returns-in-Some-clause-first
returns-in-Some-clause-first c =
    let decl = c.args.decl.now in
    constraint-in (BreaksValue c.args.set.now.parts.now decl.of) decl.value c.in-Some.constraint c.in-Some.is c.value_code.result c.value_code.ensures.first
