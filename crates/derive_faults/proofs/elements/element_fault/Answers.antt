use Rattle.std.proofs.Common.{sym, subst}
use Rattle.xs_components.specs.declared.common.TypeId.{TypeId}
use Rattle.xs_components.specs.declared.element.ElementDecl.{ElementDecl}
use Rattle.component_references.specs.Heights.{IsType}
use Rattle.component_tables.specs.Types.{type_of}
use Rattle.component_tables.proofs.DeclaredLaws.{type-there}
use Rattle.derive_faults.specs.TypeFaults.{IsFirstCode}
use Rattle.derive_faults.specs.Elements.{BreaksDecl}
use Rattle.derive_faults.proofs.PartLaws.{coded-in}
use Rattle.derive_faults.proofs.elements.element_fault.Goals as goal

pub decl_code-requires-clause-there : goal.decl_code-requires-clause-there
decl_code-requires-clause-there c =
    let t = c.args.set.now.parts.now in
    let given = c.requires.found.given in
    subst (IsType t) (sym (c.type_of-of.ensures.of t c.requires.found.declarations)) (type-there t given.ranked given.elements c.args.id)

pub returns-clause-least : goal.returns-clause-least
returns-clause-least c =
    let t = c.args.set.now.parts.now in
    let part = c.element-part.result.now in
    let first = subst (λ (of : TypeId). IsFirstCode (BreaksDecl t of part) c.in_ok-code.code) (c.type_of-of.ensures.of t c.requires.found.declarations) c.in_ok-code.ensures.first in
    coded-in t.elements.parts (λ (p : ElementDecl). p.at) (BreaksDecl t (type_of t c.args.id)) c.args.id part c.element-part.ensures.part c.in_ok-code.code c.coded.result c.coded.ensures first
