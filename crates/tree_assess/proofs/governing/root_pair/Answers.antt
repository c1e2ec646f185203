use Rattle.tree_assess.proofs.Same.{viewed, known_still}
use Rattle.tree_assess.proofs.Governed.{root_read, root_there}
use Rattle.elem_governing.specs.Heads.{head_by}
use Rattle.tree_assess.proofs.governing.root_pair.Goals as goal

pub govern_root-requires-clause-view : goal.govern_root-requires-clause-view
govern_root-requires-clause-view c =
    let v = c.view_of in
    viewed c.args.compiled.now v.result.parts.now v.result.declarations.now v.result.named.now v.ensures.parts v.ensures.declarations v.ensures.named c.requires.usable

pub govern_root-requires-clause-scope : goal.govern_root-requires-clause-scope
govern_root-requires-clause-scope c = known_still c.args.compiled.now c.view_of.result.names.now c.view_of.ensures.names c.args.head.now.scope c.requires.known

pub returns-clause-pair : goal.returns-clause-pair
returns-clause-pair c =
    root_read c.args.compiled.now c.view_of.result.names.now c.view_of.result.parts.now _ c.view_of.ensures.names c.view_of.ensures.parts c.govern_root.result c.args.head.now c.local_type-xsi.ensures c.govern_root.ensures.pair

pub returns-clause-there : goal.returns-clause-there
returns-clause-there c = root_there c.args.compiled.now (head_by c.args.compiled.now.names c.args.head.now) c.govern_root.result c.requires.usable (returns-clause-pair c)
