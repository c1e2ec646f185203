use Rattle.doc_tree.proofs.Beside.{found_there}
use Rattle.doc_tree.proofs.tree.DocTree.element_place.Goals as goal

pub returns-clause-element : goal.returns-clause-element
returns-clause-element c = rw (← c.self.view_is) (found_there c.self.inside.links c.args.node c.elements_before.ensures.sound c.elements_before.result c.elements_before.ensures.before)
