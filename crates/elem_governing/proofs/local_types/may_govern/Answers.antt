use Rattle.std.proofs.Common.{sym, subst}
use Rattle.component_tables.specs.Bases.{AreLinesOf}
use Rattle.elem_governing.proofs.local_types.may_govern.Goals as goal

pub is_derived-requires-clause-bases : goal.is_derived-requires-clause-bases
is_derived-requires-clause-bases c =
    let declarations = c.requires.view.declarations in
    subst (AreLinesOf c.args.view.now.parts.now) (sym c.bases.ensures) declarations.bases
