use Rattle.xs_components.specs.declared.attribute.AttributeDecl.{AttributeDecl}
use Rattle.derive_faults.specs.Attributes.{BreaksDecl}
use Rattle.derive_faults.proofs.PartLaws.{coded-in}
use Rattle.derive_faults.proofs.attributes.decl_fault.Goals as goal

pub returns-clause-least : goal.returns-clause-least
returns-clause-least c =
    let t = c.args.set.now.parts.now in
    coded-in t.attributes.parts (λ (decl : AttributeDecl). decl.at) (BreaksDecl t) c.args.id c.attribute-decl.result.now c.attribute-decl.ensures.part c.in_ok-code.code c.coded.result c.coded.ensures c.in_ok-code.ensures.first
