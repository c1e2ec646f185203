use Rattle.std.proofs.Common.{◌∙◌}
use Rattle.elem_governing.proofs.Siblings.{names_are, ids_are, ids_known}
use Rattle.elem_governing.proofs.children.child_names.Goals as goal

pub returns-clause-named : goal.returns-clause-named
returns-clause-named c =
    λ scope. ids_are c.args.names.now c.args.children.now c.left.left c.left.ids.items c.in_default.ensures c.left.invariant.ids ∙ names_are c.args.names.now scope c.args.children.now

pub returns-clause-known : goal.returns-clause-known
returns-clause-known c =
    ids_known c.args.names.now c.args.children.now c.left.ids.items c.requires (ids_are c.args.names.now c.args.children.now c.left.left c.left.ids.items c.in_default.ensures c.left.invariant.ids)
