use Rattle.std.proofs.Common.{sym, subst}
use Rattle.component_references.specs.Heights.{IsType}
use Rattle.component_tables.specs.Bases.{AreLinesOf}
use Rattle.component_tables.proofs.DeclaredLaws.{type-there}
use Rattle.derive_faults.proofs.exclusions.is_derived.Goals as goal

pub derives-requires-clause-bases : goal.derives-requires-clause-bases
derives-requires-clause-bases c = subst (AreLinesOf c.args.parts.now) (sym c.bases.ensures) c.requires.declarations.bases

pub derives-requires-clause-sub : goal.derives-requires-clause-sub
derives-requires-clause-sub c =
    subst (IsType c.args.parts.now) (sym (c.type_of-sub.ensures.of c.args.parts.now c.requires.declarations)) (type-there c.args.parts.now c.requires.ranked c.requires.types c.args.element)

pub derives-requires-clause-base : goal.derives-requires-clause-base
derives-requires-clause-base c =
    subst (IsType c.args.parts.now) (sym (c.type_of-base.ensures.of c.args.parts.now c.requires.declarations)) (type-there c.args.parts.now c.requires.ranked c.requires.types c.args.head)
