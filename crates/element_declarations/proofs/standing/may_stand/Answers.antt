use Rattle.std.proofs.Common.{◌∙◌, sym, subst, ap}
use Rattle.component_references.specs.Heights.{IsType}
use Rattle.component_tables.specs.Bases.{AreLinesOf}
use Rattle.component_tables.proofs.DeclaredLaws.{type-there}
use Rattle.element_declarations.proofs.StandLaws.{answered, disallowed-is}
use Rattle.element_declarations.proofs.standing.may_stand.Goals as goal

pub blocked-blocked-requires-clause-sub_there : goal.blocked-blocked-requires-clause-sub_there
blocked-blocked-requires-clause-sub_there c =
    subst (IsType c.args.parts.now) (sym (c.type_of-sub.ensures.of c.args.parts.now c.requires.declarations)) (type-there c.args.parts.now c.requires.ranked c.requires.types c.args.element)

pub blocked-blocked-requires-clause-base_there : goal.blocked-blocked-requires-clause-base_there
blocked-blocked-requires-clause-base_there c =
    subst (IsType c.args.parts.now) (sym (c.type_of-base.ensures.of c.args.parts.now c.requires.declarations)) (type-there c.args.parts.now c.requires.ranked c.requires.types c.args.head)

pub derives-requires-clause-bases : goal.derives-requires-clause-bases
derives-requires-clause-bases c = subst (AreLinesOf c.args.parts.now) (sym c.bases.ensures) c.requires.declarations.bases

pub derives-requires-clause-sub : goal.derives-requires-clause-sub
derives-requires-clause-sub c =
    subst (IsType c.args.parts.now) (sym (c.type_of-sub.ensures.of c.args.parts.now c.requires.declarations)) (type-there c.args.parts.now c.requires.ranked c.requires.types c.args.element)

pub derives-requires-clause-base : goal.derives-requires-clause-base
derives-requires-clause-base c =
    subst (IsType c.args.parts.now) (sym (c.type_of-base.ensures.of c.args.parts.now c.requires.declarations)) (type-there c.args.parts.now c.requires.ranked c.requires.types c.args.head)

pub returns : goal.returns
returns c =
    let own = disallowed-is c.args.parts.now c.args.head c.element.result.now c.element.ensures.part in
    let base = c.type_of-base.ensures.of c.args.parts.now c.requires.declarations in
    let sub = c.type_of-sub.ensures.of c.args.parts.now c.requires.declarations in
    answered c.args.parts.now c.args.head c.args.element (ap (λ m. m.substitution) own ∙ c.if-disallowed.false) c.blocked-blocked.result
    (c.blocked-blocked.ensures.blocked c.args.head c.args.element own (sym base) (sym sub)) c.type_of-sub.result c.type_of-base.result sub base c.derives.result c.derives.ensures.derives
