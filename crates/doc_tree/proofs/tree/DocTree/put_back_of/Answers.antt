use Rattle.std.proofs.Common.{sym, subst}
use Rattle.doc_nodes.specs.Nodes.{Nodes}
use Rattle.doc_changes.specs.Stands.{StandsFor}
use Rattle.doc_tree.proofs.tree.DocTree.put_back_of.Goals as goal

pub put_back_of-requires : goal.put_back_of-requires
put_back_of-requires c = let q = c.requires in (q.0, q.1, subst (λ (ns : Nodes). StandsFor q.0 ns q.1) (sym c.self.view_is) q.2, q.3)

pub returns : goal.returns
returns c = rw (← c.self.view_is) c.put_back_of.ensures
