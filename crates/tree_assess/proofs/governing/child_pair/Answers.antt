use Rattle.tree_assess.proofs.Same.{viewed, known_still}
use Rattle.tree_assess.proofs.Governed.{child_read}
use Rattle.tree_assess.proofs.governing.child_pair.Goals as goal

pub govern_child-requires-clause-view : goal.govern_child-requires-clause-view
govern_child-requires-clause-view c =
    let v = c.view_of-view in
    viewed c.args.compiled.now v.result.parts.now v.result.declarations.now v.result.named.now v.ensures.parts v.ensures.declarations v.ensures.named c.requires.usable

pub govern_child-requires-clause-scope : goal.govern_child-requires-clause-scope
govern_child-requires-clause-scope c = known_still c.args.compiled.now c.view_of-view.result.names.now c.view_of-view.ensures.names c.args.head.now.scope c.requires.known

pub returns : goal.returns
returns c = record {
  pair = child_read c.args.compiled.now c.view_of-view.result.names.now c.view_of-view.result.parts.now _ c.view_of-view.ensures.names c.view_of-view.ensures.parts c.govern_child.result c.args.head.now c.args.parent.now c.args.term
      c.local_type-xsi.ensures c.govern_child.ensures.pair;
}
