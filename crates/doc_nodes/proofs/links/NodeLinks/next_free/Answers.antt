use Rattle.doc_nodes.proofs.Seen.{sound}
use Rattle.doc_nodes.proofs.links.NodeLinks.next_free.Goals as goal

pub returns-clause-sound : goal.returns-clause-sound
returns-clause-sound c = rw (← c.self.view_is) (sound _ _ c.self.invariant)
