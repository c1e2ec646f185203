use Rattle.std.proofs.Common.{refl}
use Rattle.doc_tree.proofs.Own.{element_kind, own_name}
use Rattle.doc_tree.proofs.change.rename.Goals as goal

pub name_of-old-requires : goal.name_of-old-requires
name_of-old-requires c = let q = c.requires in element_kind q.0 c.args.links.now q.1 q.2 c.args.node q.4.0

pub rename_node-requires : goal.rename_node-requires
rename_node-requires c = let q = c.requires in element_kind q.0 c.args.links.now q.1 q.2 c.args.node q.4.0

pub returns-clause-tree : goal.returns-clause-tree
returns-clause-tree c = λ t d z l. c.rename_node.ensures.tree t d z l

pub returns-clause-inverse : goal.returns-clause-inverse
returns-clause-inverse c = λ t d z fits. let own = own_name t c.args.links.now d z c.args.node c.name_of-old.result fits.0 c.name_of-old.ensures in (refl, own.0, own.1)
